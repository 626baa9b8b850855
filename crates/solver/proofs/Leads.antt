-- One row more among those that begin at a column. Serves Steps.
use mathlib.Core.Path.{◌≡◌, refl, sym, ap, ◌∙◌, fun_ext}
use mathlib.Core.Bool.{Bool, true, false, cond, ◌&&◌, ◌||◌}
use mathlib.Core.List.{List}
use mathlib.Core.Option.{none, some}
use Prim.Native.Nat.{ℕ, ◌+◌, ◌*◌, ◌<◌, ◌≤◌}
use native.Mathlib.Decide.{ℕ_discrete}
use native.Mathlib.Numerals.{add-one}
use native.Mathlib.Omega.{arith}
use borrow.Author.Tests.{le-leb}
use lib.Dec.{eqb, leb, ltb}
use Rattle.nodes.specs.Row.{any_below}
use Rattle.nodes.specs.NodeSet.{highest}
use Rattle.nodes.proofs.Logic.{and_none, and_all, or_false, or_comm, eqb_no}
use Rattle.nodes.proofs.Row.{ltb_yes, ltb_no}
use Rattle.solver.specs.Reduced.{lead, leads}
use Rattle.solver.specs.WorkMatrix.{entry_of, bytes_of}
use Rattle.solver.specs.Steps.{no_solution, read_column, lead_bytes, set_bit}
use Rattle.solver.proofs.WorkMatrix.{bytes_ext, bytes_with}

-- a column p, among those below n
outside : (n p k : ℕ) → n ≤ p → ltb k n && eqb p k ≡ false
outside n p k h = by (ℕ_discrete p k)
  where
    by : Dec (p ≡ k) → ltb k n && eqb p k ≡ false
    by (yes e) = rw (ltb_no k n (omega arith))
    by (no f) = rw (eqb_no p k f) (and_none (ltb k n))

inside : (n p k : ℕ) → p < n → ltb k n && eqb p k ≡ eqb k p
inside n p k h = by (ℕ_discrete p k)
  where
    by : Dec (p ≡ k) → ltb k n && eqb p k ≡ eqb k p
    by (yes e) = rw (e, ltb_yes k n (omega arith))
    by (no f) = rw (eqb_no p k f, and_none (ltb k n)) (sym (eqb_no k p (λ e. f (sym e))))

module _ (m : ℕ → ℕ → Bool) (n : ℕ) (d : ℕ → Bool) where
  pub leads_none : (k : ℕ) → leads 0 n m d k ≡ false
  unfolding any_below
  leads_none k = and_none (ltb k n)

  pub leads_more : (i k : ℕ) → leads (i + 1) n m d k ≡ leads i n m d k || (ltb k n && (d i && eqb (lead m n i) k))
  unfolding any_below
  leads_more i k = rw (add-one i) (distribute (ltb k n) (d i && eqb (lead m n i) k) (any_below i (λ q. d q && eqb (lead m n q) k)))
    where
      distribute : (a b c : Bool) → a && (b || c) ≡ (a && c) || (a && b)
      distribute true b c = or_comm b c
      distribute false b c = refl

  -- a row that asks for nothing, one that does not begin, and one that does
  leads_skip : (i k : ℕ) → d i ≡ false → leads i n m d k ≡ leads (i + 1) n m d k
  leads_skip i k e = sym (leads_more i k ∙ rw (e, and_none (ltb k n)) (or_false (leads i n m d k)))

  leads_past : (i k : ℕ) → n ≤ lead m n i → leads i n m d k ≡ leads (i + 1) n m d k
  leads_past i k h = sym (leads_more i k ∙ ap (λ (b : Bool). leads i n m d k || b) (by (d i)) ∙ or_false (leads i n m d k))
    where
      by : (b : Bool) → ltb k n && (b && eqb (lead m n i) k) ≡ false
      by true = outside n (lead m n i) k h
      by false = and_none (ltb k n)

  leads_take : (i k : ℕ) → d i ≡ true → lead m n i < n → leads i n m d k || eqb k (lead m n i) ≡ leads (i + 1) n m d k
  leads_take i k e h = sym (leads_more i k ∙ rw e (ap (λ (b : Bool). leads i n m d k || b) (inside n (lead m n i) k h)))

-- ---- as bytes, where the column `asked` says which rows ask for 1
module _ (w : ℕ) (l : List ℕ) (cols asked : ℕ) where
  m : ℕ → ℕ → Bool
  m = entry_of w l

  d : ℕ → Bool
  d i = entry_of w l i asked

  same : (i j : ℕ) → ((k : ℕ) → leads i cols m d k ≡ leads j cols m d k) → lead_bytes w l cols asked i ≡ lead_bytes w l cols asked j
  unfolding m d
  same i j h = bytes_ext w (leads i cols m d) (leads j cols m d) (λ k g. h k)

  pub bytes_start : bytes_of w (λ k. false) ≡ lead_bytes w l cols asked 0
  unfolding m d
  bytes_start = bytes_ext w (λ k. false) (leads 0 cols m d) (λ k h. sym (leads_none m cols d k))

  pub bytes_skip : (i : ℕ) → entry_of w l i asked ≡ false → lead_bytes w l cols asked i ≡ lead_bytes w l cols asked (i + 1)
  unfolding m d
  bytes_skip i e = same i (i + 1) (λ k. leads_skip m cols d i k e)

  pub bytes_past : (i : ℕ) → cols ≤ lead (entry_of w l) cols i → lead_bytes w l cols asked i ≡ lead_bytes w l cols asked (i + 1)
  unfolding m d
  bytes_past i h = same i (i + 1) (λ k. leads_past m cols d i k h)

  pub bytes_take : (i : ℕ) → entry_of w l i asked ≡ true → lead (entry_of w l) cols i < cols → cols ≤ 8 * w
      → set_bit (lead_bytes w l cols asked i) (lead (entry_of w l) cols i) ≡ lead_bytes w l cols asked (i + 1)
  unfolding m d
  bytes_take i e g h =
      bytes_with w (leads i cols m d) (lead m cols i) (omega arith)
      ∙ bytes_ext w (λ k. leads i cols m d k || eqb k (lead m cols i)) (leads (i + 1) cols m d) (λ k u. leads_take m cols d i k e g)

  -- ---- what is read off
  pub read_none : (rows : ℕ) → true ≡ no_solution w l rows cols asked → none ≡ read_column w l rows cols asked
  read_none rows e = ap (λ (b : Bool). cond b none (some (leads rows cols (entry_of w l) (λ i. entry_of w l i asked)))) e

  pub read_some : (rows : ℕ) → false ≡ no_solution w l rows cols asked
      → some (leads rows cols (entry_of w l) (λ i. entry_of w l i asked)) ≡ read_column w l rows cols asked
  read_some rows e = ap (λ (b : Bool). cond b none (some (leads rows cols (entry_of w l) (λ i. entry_of w l i asked)))) e

-- ---- as a set, to which a column is added where it is one
pub set_past : (s : ℕ → Bool) (n p : ℕ) → n ≤ p → s ≡ (λ k. s k || (ltb k n && eqb p k))
set_past s n p h = fun_ext (λ k. sym (ap (λ (b : Bool). s k || b) (outside n p k h) ∙ or_false (s k)))

pub set_with : (s : ℕ → Bool) (n p : ℕ) → p < n → p ≤ highest → ◌≡◌ {A = ℕ → Bool} (λ k. s k || (eqb k p && leb p highest)) (λ k. s k || (ltb k n && eqb p k))
set_with s n p h g = fun_ext (λ k. ap (λ (b : Bool). s k || b) (ap (λ (b : Bool). eqb k p && b) (le-leb p highest g) ∙ and_all (eqb k p) ∙ sym (inside n p k h)))

pub set_start : (m : ℕ → ℕ → Bool) (n : ℕ) → ◌≡◌ {A = ℕ → Bool} (λ k. false) (λ k. leads 0 n m (λ i. true) k)
set_start m n = fun_ext (λ k. sym (leads_none m n (λ i. true) k))

pub set_more : (m : ℕ → ℕ → Bool) (n i : ℕ) → ◌≡◌ {A = ℕ → Bool} (λ k. leads i n m (λ i. true) k || (ltb k n && eqb (lead m n i) k)) (λ k. leads (i + 1) n m (λ i. true) k)
set_more m n i = fun_ext (λ k. sym (leads_more m n (λ i. true) i k))
