-- Jobs: the questions of their records as facts, and what follows for their nodes.
use Prim.Native.Nat.{ℕ, zero, suc, ◌+◌, ◌*◌, ◌%◌, ◌≤◌, ◌<◌, zero-le}
use mathlib.Core.Path.{◌≡◌, refl, sym, ap, ap₂, ◌∙◌, subst}
use mathlib.Core.Bool.{Bool, true, false, cond, ◌&&◌, ◌||◌}
use mathlib.Core.Logic.{◌⊎◌, inl, inr}
use mathlib.Core.Option.{Option, none, some}
use mathlib.Core.List.{List, [], ◌∷◌}
use native.Mathlib.Omega.{arith}
use native.Mathlib.Nat.{not-suc-le-zero, le_of_suc-le-suc}
use borrow.Author.Tests.{leb-true, ltb-true, eqb-true, le-leb, lt-ltb, eq-eqb, ne_eqb}
use lib.Dec.{T, eqb, ltb, leb, eqb→eq}
use lib.ListN.{length, get_or, get_or-eq_default}
use Rattle.flows.specs.Job.{plane_xy, plane_xz, pauli_z}
use Rattle.flows.proofs.Inferred.{infers, infers_most, infers_some, infers_none}
use Rattle.nodes.proofs.Logic.{and_out, is_false, and_l, and_r, or_out, or_comm, lt_or_ge}
use Rattle.answers.specs.Answer.{asks, ◌>>◌}
use Rattle.angles.specs.AngleRecord.{angle_bytes, angles_allowed, inferred_bytes}
use Rattle.angles.proofs.Inferred.{inferred_length, bytes_infer}
use Rattle.records.specs.Records.{all_yes, each_asks}
use Rattle.nodes.specs.NodeSet.{highest}
use Rattle.nodes.specs.Lists.{has, all}
use Rattle.records.specs.JobFile.{JobFile, most_nodes, mode_causal, mode_planes, mode_pauli, whole_pairs, nodes_below, rises, pairs_rise, highest_of, allows, all_allowed, opening_allowed, opening_asks, edges_asks, nodes_asks, measurements_asks, angles_asks, has_edge, working, working_of, job_of}
use Rattle.records.specs.Encoding.{IsValidJob}
use Rattle.records.proofs.Records.{asks-then, asks_last}

-- ---- the questions of each record, as facts
pub allowed_out : (n mode : ℕ) → opening_allowed n mode ≡ true → (n ≤ most_nodes) × (mode_causal ≤ mode) × (mode ≤ mode_pauli)
allowed_out n mode e =
    let (g, h) = and_out (leb n most_nodes && leb mode_causal mode) (leb mode mode_pauli) e in
    let (i, j) = and_out (leb n most_nodes) (leb mode_causal mode) g in
    (leb-true n most_nodes i, leb-true mode_causal mode j, leb-true mode mode_pauli h)

pub allowed_in : (n mode : ℕ) → n ≤ most_nodes → mode_causal ≤ mode → mode ≤ mode_pauli → opening_allowed n mode ≡ true
allowed_in n mode a b c = rw (le-leb n most_nodes a, le-leb mode_causal mode b, le-leb mode mode_pauli c)

pub opening_out : (p : List ℕ) → all_yes (opening_asks p) ≡ true → (length p ≡ 2) × (opening_allowed (get_or p 0 0) (get_or p 1 0) ≡ true)
unfolding opening_asks
opening_out p e =
    let (a, b) = asks-then 3 (eqb (length p) 2) (asks 4 (opening_allowed (get_or p 0 0) (get_or p 1 0))) e in
    (eqb-true (length p) 2 a, asks_last 4 (opening_allowed (get_or p 0 0) (get_or p 1 0)) b)

pub opening_in : (n mode : ℕ) → opening_allowed n mode ≡ true → all_yes (opening_asks (n ∷ mode ∷ [])) ≡ true
unfolding opening_asks
opening_in n mode a = rw a

pub edges_out : (n : ℕ) (p : List ℕ) → all_yes (edges_asks n p) ≡ true → (length p % 2 ≡ 0) × (nodes_below n p ≡ true) × (pairs_rise 0 p ≡ true)
unfolding edges_asks
edges_out n p e =
    let (a, b) = asks-then 3 (whole_pairs p) (asks 5 (nodes_below n p) >> asks 6 (pairs_rise 0 p)) e in
    let (d, f) = asks-then 5 (nodes_below n p) (asks 6 (pairs_rise 0 p)) b in
    (eqb-true (length p % 2) 0 a, d, asks_last 6 (pairs_rise 0 p) f)

pub edges_in : (n : ℕ) (p : List ℕ) → length p % 2 ≡ 0 → nodes_below n p ≡ true → pairs_rise 0 p ≡ true → all_yes (edges_asks n p) ≡ true
unfolding edges_asks
edges_in n p a b c = rw (a, b, c)

pub nodes_out : (n : ℕ) (p : List ℕ) → all_yes (nodes_asks n p) ≡ true → (nodes_below n p ≡ true) × (rises 0 p ≡ true)
unfolding nodes_asks
nodes_out n p e =
    let (a, b) = asks-then 5 (nodes_below n p) (asks 6 (rises 0 p)) e in
    (a, asks_last 6 (rises 0 p) b)

pub nodes_in : (n : ℕ) (p : List ℕ) → nodes_below n p ≡ true → rises 0 p ≡ true → all_yes (nodes_asks n p) ≡ true
unfolding nodes_asks
nodes_in n p a b = rw (a, b)

pub measurements_out : (n mode : ℕ) (output : ℕ → Bool) (p : List ℕ) → all_yes (measurements_asks n mode output p) ≡ true → (length p ≡ n) × (all_allowed mode output 0 p ≡ true)
unfolding measurements_asks
measurements_out n mode output p e =
    let (a, b) = asks-then 3 (eqb (length p) n) (asks 7 (all_allowed mode output 0 p)) e in
    (eqb-true (length p) n a, asks_last 7 (all_allowed mode output 0 p) b)

pub measurements_in : (n mode : ℕ) (output : ℕ → Bool) (p : List ℕ) → length p ≡ n → all_allowed mode output 0 p ≡ true → all_yes (measurements_asks n mode output p) ≡ true
unfolding measurements_asks
measurements_in n mode output p a b = rw (eq-eqb (length p) n a, b)

pub angles_out : (n : ℕ) (output : ℕ → Bool) (p : List ℕ) → all_yes (angles_asks n output p) ≡ true → (length p ≡ angle_bytes * n) × (angles_allowed n output p ≡ true)
unfolding angles_asks each_asks
angles_out n output p e =
    let (a, b) = asks-then 3 (eqb (length p) (angle_bytes * n)) (asks 23 (angles_allowed n output p)) e in
    (eqb-true (length p) (angle_bytes * n) a, asks_last 23 (angles_allowed n output p) b)

pub angles_in : (n : ℕ) (output : ℕ → Bool) (p : List ℕ) → length p ≡ angle_bytes * n → angles_allowed n output p ≡ true → all_yes (angles_asks n output p) ≡ true
unfolding angles_asks each_asks
angles_in n output p a b = rw (eq-eqb (length p) (angle_bytes * n) a, b)

-- ---- lists that rise, and measurements that are allowed: their laws, by which all else goes
pub rises_none : (low : ℕ) → rises low [] ≡ true
unfolding rises
rises_none low = refl

pub rises_out : (low x : ℕ) (l : List ℕ) → rises low (x ∷ l) ≡ true → (low ≤ x) × (rises (x + 1) l ≡ true)
unfolding rises
rises_out low x l a = let (p, q) = and_out (leb low x) (rises (x + 1) l) a in (leb-true low x p, q)

pub rises_in : (low x : ℕ) (l : List ℕ) → low ≤ x → rises low (x ∷ l) ≡ rises (x + 1) l
unfolding rises
rises_in low x l h = rw (le-leb low x h)

pub pairs_out : (low a b : ℕ) (l : List ℕ) → pairs_rise low (a ∷ b ∷ l) ≡ true → (a < b) × (low ≤ 256 * a + b) × (pairs_rise (256 * a + b + 1) l ≡ true)
unfolding pairs_rise
pairs_out low a b l h =
    let (p, q) = and_out (ltb a b && leb low (256 * a + b)) (pairs_rise (256 * a + b + 1) l) h in
    let (r, t) = and_out (ltb a b) (leb low (256 * a + b)) p in
    (ltb-true a b r, leb-true low (256 * a + b) t, q)

pub output_out : (mode m : ℕ) → allows mode true m ≡ true → m ≡ 0
unfolding allows
output_out mode m e = eqb-true m 0 e

pub measured_out : (mode m : ℕ) → allows mode false m ≡ true → (1 ≤ m) × (m ≤ highest_of mode)
unfolding allows
measured_out mode m e = let (p, q) = and_out (leb 1 m) (leb m (highest_of mode)) e in (leb-true 1 m p, leb-true m (highest_of mode) q)

pub allows_in : (mode m : ℕ) → m ≤ highest_of mode → allows mode (eqb m 0) m ≡ true
unfolding allows
allows_in mode zero h = refl
allows_in mode (suc m) h = rw (ne_eqb (suc m) 0 (λ e. omega arith), le-leb 1 (suc m) (omega arith), le-leb (suc m) (highest_of mode) h)

pub allowed_none : (mode : ℕ) (output : ℕ → Bool) (i : ℕ) → all_allowed mode output i [] ≡ true
unfolding all_allowed
allowed_none mode output i = refl

pub allowed-cons : (mode : ℕ) (output : ℕ → Bool) (i m : ℕ) (l : List ℕ) → all_allowed mode output i (m ∷ l) ≡ allows mode (output i) m && all_allowed mode output (i + 1) l
unfolding all_allowed
allowed-cons mode output i m l = refl

pub allowed_each : (mode : ℕ) (output : ℕ → Bool) (i m : ℕ) (l : List ℕ) → all_allowed mode output i (m ∷ l) ≡ true → (allows mode (output i) m ≡ true) × (all_allowed mode output (i + 1) l ≡ true)
allowed_each mode output i m l a = and_out (allows mode (output i) m) (all_allowed mode output (i + 1) l) (sym (allowed-cons mode output i m l) ∙ a)

-- ---- how long lists of nodes and of pairs can be
pub rises-length : (low n : ℕ) (l : List ℕ) → low ≤ n → all (λ v. ltb v n) l ≡ true → rises low l ≡ true → length l + low ≤ n
unfolding all
rises-length low n [] h a b = omega arith
rises-length low n (x ∷ l) h a b =
    let (p, q) = and_out (ltb x n) (all (λ v. ltb v n) l) a in
    let (le, t) = rises_out low x l b in
    let lx : x < n = ltb-true x n p in
    let ih : length l + (x + 1) ≤ n = rises-length (x + 1) n l (omega arith) q t in
    omega arith

pub pairs_length : (low n : ℕ) (l : List ℕ) → n ≤ 256 → low ≤ 65536 → all (λ v. ltb v n) l ≡ true → pairs_rise low l ≡ true → length l + 2 * low ≤ 131073
unfolding all
pairs_length low n [] k h a b = omega arith
pairs_length low n (x ∷ []) k h a b = omega arith
pairs_length low n (x ∷ y ∷ l) k h a b =
    let (p, q) = and_out (ltb x n) (all (λ v. ltb v n) (y ∷ l)) a in
    let (p2, q2) = and_out (ltb y n) (all (λ v. ltb v n) l) q in
    let (lt, le, t) = pairs_out low x y l b in
    let lx : x < n = ltb-true x n p in
    let ly : y < n = ltb-true y n p2 in
    let ih : length l + 2 * (256 * x + y + 1) ≤ 131073 = pairs_length (256 * x + y + 1) n l k (omega arith) q2 t in
    omega arith

-- ---- what follows for the nodes
-- what all elements pass, each member passes
pub all-has : (f : ℕ → Bool) (l : List ℕ) (u : ℕ) → all f l ≡ true → T (has l u) → f u ≡ true
unfolding all has
all-has f [] u a t = absurd t
all-has f (x ∷ l) u a t =
    let (p, q) = and_out (f x) (all f l) a in
    by p (or_out (eqb x u) (has l u) t) (all-has f l u q)
  where
    by : f x ≡ true → T (eqb x u) ⊎ T (has l u) → (T (has l u) → f u ≡ true) → f u ≡ true
    by p (inl e) ih = rw (← eqb→eq x u e) p
    by p (inr e) ih = ih e

pub has_below : (n : ℕ) (l : List ℕ) (u : ℕ) → all (λ v. ltb v n) l ≡ true → T (has l u) → u < n
has_below n l u a t = ltb-true u n (all-has (λ v. ltb v n) l u a t)

-- nodes that are below n can all be in a set
pub has_small : (n : ℕ) (l : List ℕ) → n ≤ most_nodes → nodes_below n l ≡ true → (u : ℕ) → has l u && leb u highest ≡ has l u
unfolding has all
has_small n [] h t u = refl
has_small n (a ∷ l) h t u =
    let (x, y) = and_out (ltb a n) (all (λ v. ltb v n) l) t in
    here (eqb a u) refl (ltb-true a n x) (has_small n l h y u)
  where
    here : (b : Bool) → b ≡ eqb a u → a < n → has l u && leb u highest ≡ has l u → (b || has l u) && leb u highest ≡ b || has l u
    here true e x ih = let p : a ≡ u = eqb-true a u (sym e) in le-leb u highest (omega arith)
    here false e x ih = ih

pub edge_sym : (l : List ℕ) (u v : ℕ) → has_edge l u v ≡ has_edge l v u
unfolding has_edge
edge_sym [] u v = refl
edge_sym (a ∷ []) u v = refl
edge_sym (a ∷ b ∷ l) u v = ap₂ ◌||◌ (or_comm (eqb a u && eqb b v) (eqb a v && eqb b u)) (edge_sym l u v)

-- a pair joined by an edge is one of the list's, one way or the other
pub edge_out : (a b : ℕ) (l : List ℕ) (u v : ℕ) → T (has_edge (a ∷ b ∷ l) u v) → ((a ≡ u) × (b ≡ v)) ⊎ (((a ≡ v) × (b ≡ u)) ⊎ T (has_edge l u v))
unfolding has_edge
edge_out a b l u v t = by (or_out (eqb a u && eqb b v || eqb a v && eqb b u) (has_edge l u v) t)
  where
    pair : (c d : ℕ) → T (eqb a c && eqb b d) → (a ≡ c) × (b ≡ d)
    pair c d t = (eqb→eq a c (and_l (eqb a c) (eqb b d) t), eqb→eq b d (and_r (eqb a c) (eqb b d) t))

    one : T (eqb a u && eqb b v) ⊎ T (eqb a v && eqb b u) → ((a ≡ u) × (b ≡ v)) ⊎ (((a ≡ v) × (b ≡ u)) ⊎ T (has_edge l u v))
    one (inl t) = inl (pair u v t)
    one (inr t) = inr (inl (pair v u t))

    by : T (eqb a u && eqb b v || eqb a v && eqb b u) ⊎ T (has_edge l u v) → ((a ≡ u) × (b ≡ v)) ⊎ (((a ≡ v) × (b ≡ u)) ⊎ T (has_edge l u v))
    by (inl t) = one (or_out (eqb a u && eqb b v) (eqb a v && eqb b u) t)
    by (inr t) = inr (inr t)

pub edge_below : (n : ℕ) (l : List ℕ) (u v : ℕ) → all (λ v. ltb v n) l ≡ true → T (has_edge l u v) → (u < n) × (v < n)
unfolding all has_edge
edge_below n [] u v h t = absurd t
edge_below n (a ∷ []) u v h t = absurd t
edge_below n (a ∷ b ∷ l) u v h t =
    let (p, q) = and_out (ltb a n) (all (λ v. ltb v n) (b ∷ l)) h in
    let (p2, q2) = and_out (ltb b n) (all (λ v. ltb v n) l) q in
    by (ltb-true a n p) (ltb-true b n p2) (edge_out a b l u v t) (edge_below n l u v q2)
  where
    by : a < n → b < n → ((a ≡ u) × (b ≡ v)) ⊎ (((a ≡ v) × (b ≡ u)) ⊎ T (has_edge l u v)) → (T (has_edge l u v) → (u < n) × (v < n)) → (u < n) × (v < n)
    by x y (inl (c, d)) ih = (omega arith, omega arith)
    by x y (inr (inl (c, d))) ih = (omega arith, omega arith)
    by x y (inr (inr t)) ih = ih t

loop_free : (low : ℕ) (l : List ℕ) (u : ℕ) → pairs_rise low l ≡ true → T (has_edge l u u) → ⊥
unfolding has_edge
loop_free low [] u h t = t
loop_free low (a ∷ []) u h t = t
loop_free low (a ∷ b ∷ l) u h t =
    let (lt, le, q) = pairs_out low a b l h in
    by lt (edge_out a b l u u t) (loop_free (256 * a + b + 1) l u q)
  where
    apart : a < b → a ≡ u → b ≡ u → ⊥
    apart x y z = omega arith

    by : a < b → ((a ≡ u) × (b ≡ u)) ⊎ (((a ≡ u) × (b ≡ u)) ⊎ T (has_edge l u u)) → (T (has_edge l u u) → ⊥) → ⊥
    by x (inl (c, d)) ih = apart x c d
    by x (inr (inl (c, d))) ih = apart x c d
    by x (inr (inr t)) ih = ih t

-- no node is joined to itself
pub no_loop : (low : ℕ) (l : List ℕ) (u : ℕ) → pairs_rise low l ≡ true → has_edge l u u ≡ false
no_loop low l u h = is_false (has_edge l u u) (loop_free low l u h)

-- the byte of a node
pub allowed_at : (mode : ℕ) (output : ℕ → Bool) (i : ℕ) (l : List ℕ) (k : ℕ) → all_allowed mode output i l ≡ true → k < length l → allows mode (output (i + k)) (get_or l k 0) ≡ true
allowed_at mode output i [] k a h = absurd (not-suc-le-zero h)
allowed_at mode output i (m ∷ l) zero a h =
    let e : i + 0 ≡ i = omega arith in
    ap (λ (x : ℕ). allows mode (output x) m) e ∙ (allowed_each mode output i m l a).0
allowed_at mode output i (m ∷ l) (suc k) a h =
    let e : i + suc k ≡ i + 1 + k = omega arith in
    ap (λ (x : ℕ). allows mode (output x) (get_or l k 0)) e ∙ allowed_at mode output (i + 1) l k (allowed_each mode output i m l a).1 (le_of_suc-le-suc h)

allows_below : (mode : ℕ) (output : Bool) (m : ℕ) → allows mode output m ≡ true → m < highest_of mode + 1
allows_below mode true m e = omega (arith, output_out mode m e)
allows_below mode false m e = omega (arith, (measured_out mode m e).1)

highest_most : (mode : ℕ) → highest_of mode ≤ pauli_z
highest_most mode = by (eqb mode mode_causal) (eqb mode mode_planes)
  where
    by : (a b : Bool) → cond a plane_xy (cond b plane_xz pauli_z) ≤ pauli_z
    by true b = omega arith
    by false true = omega arith
    by false false = omega arith

pub allows_most : (mode : ℕ) (output : Bool) (m : ℕ) → allows mode output m ≡ true → m ≤ pauli_z
allows_most mode output m e = omega (arith, allows_below mode output m e, highest_most mode)

pub allowed_below : (mode : ℕ) (output : ℕ → Bool) (i : ℕ) (l : List ℕ) → all_allowed mode output i l ≡ true → all (λ v. ltb v (highest_of mode + 1)) l ≡ true
unfolding all
allowed_below mode output i [] a = refl
allowed_below mode output i (m ∷ l) a =
    let (p, q) = allowed_each mode output i m l a in
    rw (lt-ltb m (highest_of mode + 1) (allows_below mode (output i) m p), allowed_below mode output (i + 1) l q)

-- what is inferred from an allowed byte is allowed in mode 3
inferred_allowed : (mode : ℕ) (output : Bool) (p m : ℕ) → T (infers p m) → allows mode output p ≡ true → allows mode_pauli output m ≡ true
unfolding allows
inferred_allowed mode true p m h e =
    let none_inferred : m ≡ 0 = infers_none m (subst (λ (p : ℕ). T (infers p m)) (output_out mode p e) h) in
    eq-eqb m 0 none_inferred
inferred_allowed mode false p m h e =
    let (from, to) = measured_out mode p e in
    let most : p < 7 = omega (arith, to, highest_most mode) in
    let few : m < 7 = infers_most p m h most in
    let some_inferred = infers_some p m h (λ z. omega arith) in
    rw (le-leb 1 m (positive m some_inferred), le-leb m (highest_of mode_pauli) (omega arith)) refl
  where
    positive : (m : ℕ) → (m ≡ 0 → ⊥) → 1 ≤ m
    positive zero d = absurd (d refl)
    positive (suc m) d = omega arith

module _ (f : JobFile) (v : IsValidJob f) where
  byte_allowed : (u : ℕ) → u < f.n → allows f.mode (has f.outputs u) (get_or f.measurements u 0) ≡ true
  byte_allowed u h =
      let e : 0 + u ≡ u = omega arith in
      ap (λ (x : ℕ). allows f.mode (has f.outputs x) (get_or f.measurements u 0)) (sym e)
      ∙ allowed_at f.mode (has f.outputs) 0 f.measurements u v.allowed (omega (arith, v.count))

  -- what is inferred from the planes, whatever the angles
  pub planes_infer : (angles : List ℕ) (u : ℕ) → u < f.n → T (infers (get_or f.measurements u 0) (get_or (inferred_bytes f.measurements angles) u 0))
  planes_infer angles u h = bytes_infer f.measurements angles u (subst (λ (n : ℕ). u < n) (sym v.count) h)

  -- the mode to work with allows the measurement to work with
  works_allowed : (u : ℕ) → u < f.n → allows (working_of f).mode ((job_of f).output u) ((job_of f).measured u) ≡ true
  works_allowed u h = by f.angles
    where
      by : (o : Option (List ℕ)) → allows (working f.mode f.measurements o).mode (has f.outputs u) (get_or (working f.mode f.measurements o).measurements u 0) ≡ true
      by none = byte_allowed u h
      by (some p) = inferred_allowed f.mode (has f.outputs u) (get_or f.measurements u 0) _ (planes_infer p u h) (byte_allowed u h)

  -- as many of them as nodes
  pub works_count : length (working_of f).measurements ≡ f.n
  works_count = by f.angles
    where
      by : (o : Option (List ℕ)) → length (working f.mode f.measurements o).measurements ≡ f.n
      by none = v.count
      by (some p) = inferred_length f.measurements p ∙ v.count

  -- a node that is measured has a byte from 1 to the highest of the mode
  pub measured_range : (u : ℕ) → u < f.n → (job_of f).output u ≡ false → (1 ≤ (job_of f).measured u) × ((job_of f).measured u ≤ highest_of (working_of f).mode)
  measured_range u h o = measured_out (working_of f).mode ((job_of f).measured u) (rw o at (works_allowed u h))

  pub output_zero : (u : ℕ) → u < f.n → (job_of f).output u ≡ true → (job_of f).measured u ≡ 0
  output_zero u h o = output_out (working_of f).mode ((job_of f).measured u) (rw o at (works_allowed u h))

  pub measured_most : (u : ℕ) → (job_of f).measured u ≤ pauli_z
  measured_most u = by (lt_or_ge u f.n)
    where
      by : (u < f.n) ⊎ (f.n ≤ u) → (job_of f).measured u ≤ pauli_z
      by (inl h) = allows_most (working_of f).mode ((job_of f).output u) ((job_of f).measured u) (works_allowed u h)
      by (inr h) = rw (get_or-eq_default (working_of f).measurements 0 {n = u} (omega (arith, works_count))) zero-le

  pub measured_plane : (working_of f).mode ≡ mode_planes → (u : ℕ) → u < f.n → (job_of f).output u ≡ false → (1 ≤ (job_of f).measured u) × ((job_of f).measured u ≤ plane_xz)
  measured_plane m u h o = rw m at (measured_range u h o)
