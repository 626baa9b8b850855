-- What stands in the lent buffers: how a search starts, and the layers and sets that are left.
use Prim.Native.Nat.{ℕ, ◌+◌, ◌*◌, ◌/◌, ◌%◌, ◌≤◌, ◌<◌}
use mathlib.Core.Path.{◌≡◌, refl, sym, ap, ap₂, ◌∙◌, fun_ext}
use mathlib.Core.Bool.{Bool, true, false, cond, not, ◌&&◌, ◌||◌}
use mathlib.Core.Logic.{◌⊎◌, inl, inr, ◌≢◌}
use mathlib.Core.List.{List}
use native.Mathlib.Omega.{arith}
use native.Mathlib.Numerals.{add-one, lt_of_le_of_ne}
use native.Mathlib.Decide.{ℕ_discrete}
use lib.Dec.{T, eqb, leb, ltb, le→leb, leb→le, eqb→eq, ltb→lt}
use lib.ListN.{length, get_or}
use Rattle.nodes.specs.Bit.{bit, digits}
use Rattle.nodes.specs.Row.{any_below, all_below}
use Rattle.nodes.specs.NodeSet.{member, capacity, highest, word_bits}
use Rattle.nodes.specs.Lists.{zeros}
use Rattle.nodes.specs.SetTable.{table_words, set_words, set_at}
use Rattle.nodes.proofs.Logic.{is_true, from_true, beq_eq, dec, and_l, and_r, and_in, and_none, and_all, or_false, not_in, not_out, eqb_no, eqb_yes, lt_or_ge}
use Rattle.answers.specs.Answer.{Answer, gives}
use Rattle.nodes.proofs.Row.{any_in, any_out, all_in, all_out, all_ext, ltb_yes, ltb_no}
use Rattle.nodes.proofs.NodeSet.{IsWords}
use Rattle.nodes.proofs.SetTable.{set_in, zeros_empty}
use Rattle.nodes.proofs.Lists.{is_list_of, zeros_at}
use Rattle.nodes.proofs.Digits.{digits_is}
use Rattle.flows.specs.Search.{Progress, start}
use Rattle.solver.specs.Solver.{work_bytes}
use Rattle.finder.specs.Visits.{IsSized, progress_in, cut_to}
use Rattle.finder.specs.Searches.{job_in, sizes_fit, layers_of, set_table, progress_at, SearchOutcome, planes_given, searched, refused, search_call, answer_of}
use Rattle.finder.proofs.Visits.{progress_eq}

pub in_range : (u : ℕ) → u < capacity → leb u highest ≡ true
in_range u l = is_true (leb u highest) (le→leb u highest (omega arith))

-- one more passes
pub all_more : (n : ℕ) (s : ℕ → Bool) → T (all_below n s) → T (s n) → T (all_below (n + 1) s)
unfolding all_below
all_more n s t a = rw (add-one n) (and_in (s n) (all_below n s) a t)

-- ---- the start
-- the outputs below n, no layer and no set
pub start_cut : (n : ℕ) → n ≤ capacity → (outputs solved : List ℕ) (layers sets : List ℕ) (a b : ℕ)
    → member solved ≡ (λ u. member outputs u && (ltb u n && leb u highest)) → layers ≡ zeros a → sets ≡ zeros b
    → progress_in solved layers sets ≡ cut_to n (start (member outputs))
start_cut n h outputs solved layers sets a b e f g = progress_eq (progress_in solved layers sets) (cut_to n (start (member outputs))) (λ u. solved' u (lt_or_ge u n)) layer' set'
  where
    solved' : (u : ℕ) → (u < n) ⊎ (n ≤ u) → member solved u ≡ ltb u n && member outputs u
    solved' u (inl l) = ap (λ (q : ℕ → Bool). q u) e ∙ rw (ltb_yes u n l, in_range u (omega arith), and_all (member outputs u))
    solved' u (inr l) = ap (λ (q : ℕ → Bool). q u) e ∙ rw (ltb_no u n l, and_none (member outputs u))

    either : (b : Bool) → ◌≡◌ {A = ℕ} (cond b 0 0) 0
    either true = refl
    either false = refl

    layer' : (u : ℕ) → get_or layers u 0 ≡ cond (ltb u n) 0 0
    layer' u = ap (λ (l : List ℕ). get_or l u 0) f ∙ zeros_at a u ∙ sym (either (ltb u n))

    set' : (u : ℕ) → ◌≡◌ {A = ℕ → Bool} (set_at sets u) (λ v. ltb u n && false)
    set' u = ap (λ (l : List ℕ). set_at l u) g ∙ zeros_empty b u ∙ fun_ext (λ v. sym (and_none (ltb u n)))

-- ---- the end
pub layers_left : (n : ℕ) (solved : List ℕ) (layers sets : List ℕ) (p : Progress) → length layers ≡ capacity → progress_in solved layers sets ≡ cut_to n p → layers ≡ layers_of n p
layers_left n solved layers sets p h e = is_list_of layers capacity (λ u. cond (ltb u n) (p.layer u) 0) h (λ u l. ap (λ (q : Progress). q.layer u) e)

pub sets_left : (n : ℕ) (solved : List ℕ) (layers sets : List ℕ) (p : Progress) → length sets ≡ table_words → IsWords sets → progress_in solved layers sets ≡ cut_to n p → sets ≡ set_table n p
sets_left n solved layers sets p h w e = is_list_of sets table_words word h (λ i l. digits_is word_bits (get_or sets i 0) (digit i) (w i) (λ t m. place i t l m))
  where
    digit : ℕ → ℕ → Bool
    digit i t = ltb (i / set_words) n && p.set (i / set_words) (word_bits * (i % set_words) + t)

    word : ℕ → ℕ
    word i = digits word_bits (digit i)

    place : (i t : ℕ) → i < table_words → t < word_bits → bit (get_or sets i 0) t ≡ digit i t
    place i t l m =
        let v : ℕ = word_bits * (i % set_words) + t in
        let a : i ≡ set_words * (i / set_words) + v / word_bits = omega arith in
        let b : t ≡ v % word_bits = omega arith in
        ap₂ (λ (x y : ℕ). bit (get_or sets x 0) y) a b ∙ sym (set_in sets (i / set_words) v (omega arith)) ∙ ap (λ (q : Progress). q.set (i / set_words) v) e

-- nothing below n is unsolved
pub all_solved : (n : ℕ) (s : ℕ → Bool) → n ≤ capacity → not (any_below capacity (λ u. (ltb u n && leb u highest) && not (s u))) ≡ all_below n s
all_solved n s h = beq_eq (not (any_below capacity unsolved)) (all_below n s) (λ t. all_in n s (λ u l. by u l t (dec (s u)))) (λ t. not_in (any_below capacity unsolved) (λ q. off t (any_out capacity unsolved q)))
  where
    unsolved : ℕ → Bool
    unsolved u = (ltb u n && leb u highest) && not (s u)

    by : (u : ℕ) → u < n → T (not (any_below capacity unsolved)) → T (s u) ⊎ (T (s u) → ⊥) → T (s u)
    by u l t (inl a) = a
    by u l t (inr f) = absurd (not_out (any_below capacity unsolved) t (any_in capacity unsolved u (omega arith) (rw (ltb_yes u n l, in_range u (omega arith)) (not_in (s u) f))))

    off : T (all_below n s) → (u : ℕ) × (u < capacity) × T (unsolved u) → ⊥
    off t (u, l, q) = not_out (s u) (and_r (ltb u n && leb u highest) (not (s u)) q) (all_out n s t u (ltb→lt u n (and_l (ltb u n) (leb u highest) (and_l (ltb u n && leb u highest) (not (s u)) q))))

pub answer_left : (n : ℕ) (solved : List ℕ) (layers sets : List ℕ) (p : Progress) → progress_in solved layers sets ≡ cut_to n p → answer_of n (member solved) ≡ answer_of n p.solved
answer_left n solved layers sets p e = ap gives (all_ext n (member solved) p.solved (λ u l. ap (λ (q : Progress). q.solved u) e ∙ ap (λ (b : Bool). b && p.solved u) (ltb_yes u n l)))

-- ---- the sizes that are asked for
module _ (n : ℕ) (graph measured work layers sets : List ℕ) where
  pub sizes_last : leb n capacity ≡ true → eqb (length graph) table_words ≡ true → leb n (length measured) ≡ true → eqb (length work) work_bytes ≡ true → eqb (length layers) capacity ≡ true
      → eqb (length sets) table_words ≡ sizes_fit n graph measured work layers sets
  unfolding sizes_fit
  sizes_last a b c d e = rw (a, b, c, d, e)

  pub sizes_out : sizes_fit n graph measured work layers sets ≡ true → IsSized n measured work layers sets
  unfolding sizes_fit
  sizes_out e =
      let t = from_true (sizes_fit n graph measured work layers sets) e in
      let t₁ = and_r (leb n capacity) (eqb (length graph) table_words && (leb n (length measured) && (eqb (length work) work_bytes && (eqb (length layers) capacity && eqb (length sets) table_words)))) t in
      let t₂ = and_r (eqb (length graph) table_words) (leb n (length measured) && (eqb (length work) work_bytes && (eqb (length layers) capacity && eqb (length sets) table_words))) t₁ in
      let t₃ = and_r (leb n (length measured)) (eqb (length work) work_bytes && (eqb (length layers) capacity && eqb (length sets) table_words)) t₂ in
      let t₄ = and_r (eqb (length work) work_bytes) (eqb (length layers) capacity && eqb (length sets) table_words) t₃ in
      record {
        nodes = leb→le n capacity (and_l (leb n capacity) (eqb (length graph) table_words && (leb n (length measured) && (eqb (length work) work_bytes && (eqb (length layers) capacity && eqb (length sets) table_words)))) t);
        given = leb→le n (length measured) (and_l (leb n (length measured)) (eqb (length work) work_bytes && (eqb (length layers) capacity && eqb (length sets) table_words)) t₂);
        rows = eqb→eq (length work) work_bytes (and_l (eqb (length work) work_bytes) (eqb (length layers) capacity && eqb (length sets) table_words) t₃);
        places = eqb→eq (length layers) capacity (and_l (eqb (length layers) capacity) (eqb (length sets) table_words) t₄);
        words = eqb→eq (length sets) table_words (and_r (eqb (length layers) capacity) (eqb (length sets) table_words) t₄);
      }

-- ---- what a call answers
module _ (pauli : Bool) (n : ℕ) (graph : List ℕ) (inputs outputs : List ℕ) (measured work layers sets : List ℕ) where
  abbrev given : Bool
  given = sizes_fit n graph measured work layers sets && (pauli || planes_given (job_in n graph inputs outputs measured))

  pub call-refused : given ≡ false → search_call pauli n graph inputs outputs measured work layers sets ≡ refused work layers sets
  unfolding search_call
  call-refused e = rw e

  pub call-searched : given ≡ true → search_call pauli n graph inputs outputs measured work layers sets ≡ searched n (progress_at pauli (job_in n graph inputs outputs measured))
  unfolding search_call
  call-searched e = rw e

  pub given_sized : given ≡ true → IsSized n measured work layers sets
  given_sized e = sizes_out n graph measured work layers sets (is_true (sizes_fit n graph measured work layers sets) (and_l (sizes_fit n graph measured work layers sets) (pauli || planes_given (job_in n graph inputs outputs measured)) (from_true given e)))

pub outcome_eq : (n : ℕ) (p : Progress) (answer : Answer Bool) (work layers sets : List ℕ) → answer ≡ answer_of n p.solved → work ≡ zeros work_bytes → layers ≡ layers_of n p → sets ≡ set_table n p
    → ◌≡◌ {A = SearchOutcome} (record { answer = answer; work = work; layers = layers; sets = sets }) (searched n p)
outcome_eq n p answer work layers sets a b c d = rw (a, b, c, d)

-- a search that has come as far as p
pub call_left : (n : ℕ) (p : Progress) (solved : List ℕ) (answer : Answer Bool) (work layers sets : List ℕ) → progress_in solved layers sets ≡ cut_to n p → answer ≡ answer_of n (member solved) → work ≡ zeros work_bytes
    → length layers ≡ capacity → length sets ≡ table_words → IsWords sets → ◌≡◌ {A = SearchOutcome} (record { answer = answer; work = work; layers = layers; sets = sets }) (searched n p)
call_left n p solved answer work layers sets e a b hl hs w =
    outcome_eq n p answer work layers sets (a ∙ answer_left n solved layers sets p e) b (layers_left n solved layers sets p hl e) (sets_left n solved layers sets p hs w e)

-- ---- a set that is gathered node by node
pub none_yet : (f : ℕ → Bool) → ◌≡◌ {A = ℕ → Bool} (λ u. false) (λ u. ltb u 0 && f u)
none_yet f = fun_ext (λ u. sym (ap (λ (b : Bool). b && f u) (ltb_no u 0 (omega arith))))

pub one_more : (i : ℕ) (f found : ℕ → Bool) (has : Bool) → found ≡ (λ u. ltb u i && f u) → has ≡ f i → ◌≡◌ {A = ℕ → Bool} (λ u. found u || (has && eqb u i)) (λ u. ltb u (i + 1) && f u)
one_more i f found has e g = fun_ext (λ u. ap (λ (q : ℕ → Bool). q u || (has && eqb u i)) e ∙ by u (lt_or_ge u i) (ℕ_discrete u i))
  where
    by : (u : ℕ) → (u < i) ⊎ (i ≤ u) → Dec (u ≡ i) → (ltb u i && f u) || (has && eqb u i) ≡ ltb u (i + 1) && f u
    by u (inl l) (yes q) = absurd (apart u i l q)
      where
        apart : (u i : ℕ) → u < i → u ≡ i → ⊥
        apart u i l q = omega arith
    by u (inl l) (no q) = rw (ltb_yes u i l, eqb_no u i q, ltb_yes u (i + 1) (omega arith), and_none has, or_false (f u))
    by u (inr l) (yes q) = rw (ltb_no u i l, q, eqb_yes i, ltb_yes i (i + 1) (omega arith), g) (and_all (f i))
    by u (inr l) (no q) = rw (ltb_no u i l, eqb_no u i q, ltb_no u (i + 1) (beyond u i l q)) (and_none has)
      where
        beyond : (u i : ℕ) → i ≤ u → u ≢ i → i + 1 ≤ u
        beyond u i l q = omega (arith, lt_of_le_of_ne l (λ x. q (sym x)))

-- who is excused: nobody for planes
pub nobody_excused : {pauli : Bool} → pauli ≡ false → (n : ℕ) (f : ℕ → Bool) → ◌≡◌ {A = ℕ → Bool} (λ u. false) (λ u. ltb u n && (pauli && f u))
nobody_excused e n f = fun_ext (λ u. rw e (sym (and_none (ltb u n))))

pub all_excused : {pauli : Bool} → pauli ≡ true → (n : ℕ) (f : ℕ → Bool) → ◌≡◌ {A = ℕ → Bool} (λ u. ltb u n && f u) (λ u. ltb u n && (pauli && f u))
all_excused e n f = fun_ext (λ u. rw e)

pub or_self : (a : Bool) → a || a ≡ a
or_self true = refl
or_self false = refl

-- a node that a set can have is added
pub with_node : (s r : ℕ → Bool) (v : ℕ) → v < capacity → r ≡ (λ u. s u || (eqb u v && leb v highest)) → r ≡ (λ u. s u || eqb u v)
with_node s r v h e =
    e ∙ fun_ext (λ u. ap (λ (b : Bool). s u || b) (ap (λ (b : Bool). eqb u v && b) (is_true (leb v highest) (le→leb v highest (omega arith))) ∙ and_all (eqb u v)))
