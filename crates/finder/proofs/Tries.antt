-- The filled work matrix is the system of a round, and what its basis answers for a node is what a try with the node's own rows gives.
use Prim.Native.Nat.{ℕ, suc, ◌+◌, ◌-◌, ◌*◌, ◌≤◌, ◌<◌}
use mathlib.Core.Path.{◌≡◌, refl, sym, ap, ap₂, ◌∙◌, subst, fun_ext}
use mathlib.Core.Bool.{Bool, true, false, cond, not, ◌&&◌, ◌||◌}
use mathlib.Core.List.{List}
use mathlib.Core.Logic.{◌⊎◌, inl, inr}
use mathlib.Core.Option.{none, some}
use native.Mathlib.Nat.{add-sub_cancel_left}
use native.Mathlib.Decide.{ℕ_discrete}
use native.Mathlib.Omega.{arith}
use lib.Dec.{T, eqb, ltb, eqb→eq}
use lib.ListN.{length, drop}
use Rattle.answers.specs.Answer.{asks}
use Rattle.answers.specs.Refusals.{given}
use Rattle.answers.proofs.Answer.{never}
use Rattle.answers.specs.declared.Refusal.{Refusal}
use Rattle.nodes.specs.Bit.{◌⊕◌}
use Rattle.nodes.specs.Row.{count, any_below}
use Rattle.nodes.specs.NodeSet.{capacity, member}
use Rattle.nodes.specs.SetTable.{set_at, table_words}
use Rattle.nodes.proofs.Logic.{is_true, is_false, dec, and_l, and_r, and_none, and_all, or_l, or_r, or_out, ⊕_none, eqb_no, eqb_yes, lt_or_ge, and_in, or_false, beq_eq}
use Rattle.nodes.proofs.Row.{ltb_yes, ltb_no, any_in, any_out}
use Rattle.nodes.proofs.NodeSet.{member-lt}
use Rattle.solver.specs.System.{System, solve}
use Rattle.solver.specs.Asked.{asking, asked_side}
use Rattle.solver.specs.WorkMatrix.{entry_of}
use Rattle.solver.specs.Solver.{row_bytes, most_rows}
use Rattle.solver.specs.Basis.{Form, answer_from}
use Rattle.solver.specs.BasisCalls.{Echelon, form_of, form_fits, named_entry, named_system, IsBasisFormed, FormAfter, TablesSolve, solution_of}
use Rattle.std.specs.Prelude as Rust
use Rattle.solver.proofs.System.{solve_ext, solve_past}
use Rattle.solver.proofs.Asked.{IsLike, HasLike, IsIdle, solve_by_rows}
use Rattle.solver.proofs.BasisTables.{rest_entry, fits_last}
use Rattle.solver.proofs.BasisForms.{unreached}
use Rattle.flows.specs.Job.{plane_xy}
use Rattle.flows.specs.Branch.{in_set, in_odd, system_at, side_at, with_node, try_branch}
use Rattle.flows.specs.Round.{for_node, has_row, round_side, asked_row, asked_bit}
use Rattle.flows.proofs.Round.{try_round_lem}
use Rattle.nodes.proofs.Count.{count_disjoint}
use Rattle.finder.specs.Tries.{graph_job, round_system, side_bit, round_rows, asked_columns, asked_odd, IsReady}
use Rattle.finder.specs.WorkMatrix.{context_of, HasRowsApart, row_bit, IsLaidOut, Reaches}
use Rattle.finder.specs.declared.matrix.Context as Code

-- ---- the rows of the matrix that are laid out, and those that are left out because no column reaches them
module _ (transposed work : List ℕ) (s : Code.Context) (upper reached : List ℕ) (up : member upper ≡ (λ v. member s.upper v && member reached v)) (reach : Reaches transposed s reached)
    (above : IsLaidOut (member upper) (row_bit transposed (member s.columns) false) work)
    (below : IsLaidOut (member s.lower) (row_bit transposed (member s.columns) true) (drop (count capacity (member upper) * row_bytes) work)) where
  entry_at : (v k : ℕ) → k < capacity → T (member s.columns k) → named_entry work (member upper) (member s.lower) v k ≡ (round_system transposed s).entry v k
  entry_at v k l t =
      ap₂ ◌⊕◌
      (one (member upper) (entry_of row_bytes work (count v (member upper)) k) false (λ q. above v k q (omega arith))
      ∙ ap (λ (b : Bool). member upper v && b) (⊕_none (set_at transposed v k)) ∙ ap (λ (b : Bool). b && set_at transposed v k) (ap (λ (f : ℕ → Bool). f v) up)
      ∙ within (member s.upper v) (member reached v) (set_at transposed v k) (reach v k t))
      (one (member s.lower) (entry_of row_bytes work (count capacity (member upper) + count v (member s.lower)) k) true
      (λ q. sym (rest_entry (count capacity (member upper)) work (count v (member s.lower)) k) ∙ below v k q (omega arith)))
    where
      -- a row of a member has its bits, the others have no say
      one : (rows : ℕ → Bool) (e lower : Bool) → (T (rows v) → e ≡ row_bit transposed (member s.columns) lower v k) → rows v && e ≡ rows v && (set_at transposed v k ⊕ (lower && eqb k v))
      one rows e lower h = by (dec (rows v))
        where
          by : T (rows v) ⊎ (T (rows v) → ⊥) → rows v && e ≡ rows v && (set_at transposed v k ⊕ (lower && eqb k v))
          by (inl q) =
              ap (λ (b : Bool). rows v && b) (h q ∙ ap (λ (b : Bool). (set_at transposed v k ⊕ (lower && eqb k v)) && b) (is_true (member s.columns k) t) ∙ and_all (set_at transposed v k ⊕ (lower && eqb k v)))
          by (inr f) = ap (λ (b : Bool). b && e) (is_false (rows v) f) ∙ sym (ap (λ (b : Bool). b && (set_at transposed v k ⊕ (lower && eqb k v))) (is_false (rows v) f))

      within : (a r x : Bool) → (T x → T r) → (a && r) && x ≡ a && x
      within false r x h = refl
      within true true x h = refl
      within true false true h = absurd (h tt)
      within true false false h = refl

  pub laid_answers : (e : Echelon) (kernel reduced preimage : List ℕ) → IsBasisFormed work (member upper) (member s.lower) (member s.columns) kernel reduced preimage e
      → TablesSolve (round_system transposed s) e kernel reduced preimage
  laid_answers e kernel reduced preimage a b r odd ends =
      a.solves b r odd ends
      ∙ solve_ext (asking (named_system work (member upper) (member s.lower) (member s.columns)) r) (asking (round_system transposed s) r) capacity
      (record { rows = refl; row = λ i l. refl; column = λ k l. refl; entry = λ i k l h u v. ap (λ (x : Bool). cond (ltb i capacity) x (r k)) (entry_at i k h v) })
      (asked_side capacity b odd) (asked_side capacity b odd) (λ i l t. refl)

-- all rows fit
pub rows_room : (s : Code.Context) → HasRowsApart s → count capacity (member s.upper) + count capacity (member s.lower) ≤ most_rows
rows_room s f = count_disjoint capacity (member s.upper) (member s.lower) (λ k l a b. f k a b)

-- ---- the system of a try
module _ (n : ℕ) (g : List ℕ) (s : Code.Context) (e : Echelon) (kernel reduced preimage transposed : List ℕ) (ready : IsReady n g s e kernel reduced preimage transposed) where
  abbrev sys : System
  sys = system_at (graph_job n g) (context_of s)

  module _ (u b : ℕ) (inside : u < n) where
    abbrev small : System
    small = asking (round_system transposed s) (asked_columns transposed s u)

    abbrev large : System
    large = asking sys (asked_row (graph_job n g) (context_of s) u)

    abbrev side : ℕ → Bool
    side = round_side (graph_job n g) u b

    abbrev small_side : ℕ → Bool
    small_side = asked_side capacity (round_rows g s u b) (asked_odd g s u b)

    abbrev large_side : ℕ → Bool
    large_side = asked_side (n + n) side (asked_bit (graph_job n g) (context_of s) u b)

    -- what an upper row of v asks for
    upper_side : (v : ℕ) → v < n → side_bit g u b v ≡ side v
    upper_side v h =
        sym (ap₂ (λ (x y : Bool). cond x (side_at (graph_job n g) u b u) ((eqb v u && in_odd b) ⊕ (in_set b && cond y (set_at g u v) (set_at g u (v - n) ⊕ eqb u (v - n)))))
        (eqb_no v (n + u) (λ z. absurd (omega arith))) (ltb_yes v n h))

    own_side : side_bit g u b u ≡ side_at (graph_job n g) u b u
    own_side = sym (ap (λ (y : Bool). (eqb u u && in_odd b) ⊕ (in_set b && cond y (set_at g u u) (set_at g u (u - n) ⊕ eqb u (u - n)))) (ltb_yes u n inside))

    -- and a lower one
    lower_side : (v : ℕ) → side_bit g u b v ≡ side (n + v)
    lower_side v = by (ℕ_discrete v u)
      where
        by : Dec (v ≡ u) → side_bit g u b v ≡ side (n + v)
        by (yes z) =
            ap (side_bit g u b) z ∙ own_side
            ∙ sym (ap (λ (x : Bool). cond x (side_at (graph_job n g) u b u) (side_at (graph_job n g) u b (n + v))) (ap (λ (x : ℕ). eqb (n + x) (n + u)) z ∙ eqb_yes (n + u)))
        by (no d) =
            let q : n + v - n ≡ v = add-sub_cancel_left n v in
            ap₂ (λ (x y : Bool). (x && in_odd b) ⊕ (in_set b && y)) (eqb_no v u d ∙ sym (eqb_no (n + v) u (λ z. absurd (omega arith)))) (sym (ap (λ (x : Bool). set_at g u v ⊕ x) (eqb_no u v (λ z. d (sym z))) ∙ ⊕_none (set_at g u v)))
            ∙ ap (λ (x : ℕ). (eqb (n + v) u && in_odd b) ⊕ (in_set b && (set_at g u x ⊕ eqb u x))) (sym q)
            ∙ sym (ap (λ (x : Bool). cond x (side_at (graph_job n g) u b u) (side_at (graph_job n g) u b (n + v))) (eqb_no (n + v) (n + u) (λ z. d (omega arith)))
            ∙ ap (λ (y : Bool). (eqb (n + v) u && in_odd b) ⊕ (in_set b && cond y (set_at g u (n + v)) (set_at g u (n + v - n) ⊕ eqb u (n + v - n)))) (ltb_no (n + v) n (omega arith)))

    asked_row_lem : (k : ℕ) → T (member s.columns k) → asked_columns transposed s u k ≡ asked_row (graph_job n g) (context_of s) u k
    asked_row_lem k t =
        ap₂ (λ (x y : Bool). cond (has_row (context_of s) u) (eqb k u) (x && y)) (ready.seeing u k t) (is_true (member s.columns k) t)
        ∙ ap (λ (x : Bool). cond (has_row (context_of s) u) (eqb k u) x) (and_all (set_at g k u))
        ∙ ap (λ (y : Bool). cond (has_row (context_of s) u) (eqb k u) (cond y (set_at g k u) (set_at g k (u - n) ⊕ eqb k (u - n)))) (sym (ltb_yes u n inside))

    asked_bit_lem : asked_odd g s u b ≡ asked_bit (graph_job n g) (context_of s) u b
    asked_bit_lem = ap (λ (x : Bool). not (has_row (context_of s) u) && x) own_side ∙ by (has_row (context_of s) u)
      where
        by : (c : Bool) → not c && side_at (graph_job n g) u b u ≡ cond c false (side_at (graph_job n g) u b u)
        by true = refl
        by false = refl

    -- the row of v is row q of the larger system
    module _ (v q : ℕ) (few : v < capacity) (low : q < n + n) (has : T (has_row (context_of s) v))
        (same : (k : ℕ) → T (member s.columns k) → (round_system transposed s).entry v k ≡ sys.entry q k) (asks : side_bit g u b v ≡ side q) where
      row_like : IsLike small large n small_side large_side v q
      row_like = (
        λ k l c. ap (λ (x : Bool). cond x ((round_system transposed s).entry v k) (asked_columns transposed s u k)) (ltb_yes v capacity few)
            ∙ same k c ∙ sym (ap (λ (x : Bool). cond x (sys.entry q k) (asked_row (graph_job n g) (context_of s) u k)) (ltb_yes q (n + n) low)),
        ap (λ (x : Bool). cond x (round_rows g s u b v) (asked_odd g s u b)) (ltb_yes v capacity few)
            ∙ ap (λ (x : Bool). side_bit g u b v && x) (is_true (has_row (context_of s) v) has) ∙ and_all (side_bit g u b v) ∙ asks
            ∙ sym (ap (λ (x : Bool). cond x (side q) (asked_bit (graph_job n g) (context_of s) u b)) (ltb_yes q (n + n) low)),
      )

    upper_like : (v : ℕ) → T (member s.upper v) → IsLike small large n small_side large_side v v
    upper_like v t =
        let h = ready.within.upper v t in
        row_like v v (member-lt s.upper v t) (omega arith) (or_l (member s.upper v) (member s.lower v) t)
        (λ k c. ap₂ (λ (x y : Bool). (x && set_at transposed v k) ⊕ (y && (set_at transposed v k ⊕ eqb k v))) (is_true (member s.upper v) t) (is_false (member s.lower v) (ready.apart v t))
        ∙ ⊕_none (set_at transposed v k) ∙ ready.seeing v k c ∙ sym (ap (λ (x : Bool). cond x (set_at g k v) (set_at g k (v - n) ⊕ eqb k (v - n))) (ltb_yes v n h)))
        (upper_side v h)

    lower_like : (v : ℕ) → T (member s.lower v) → IsLike small large n small_side large_side v (n + v)
    lower_like v t =
        let h = ready.within.lower v t in
        let q : n + v - n ≡ v = add-sub_cancel_left n v in
        row_like v (n + v) (member-lt s.lower v t) (omega arith) (or_r (member s.upper v) (member s.lower v) t)
        (λ k c. ap₂ (λ (x y : Bool). (x && set_at transposed v k) ⊕ (y && (set_at transposed v k ⊕ eqb k v))) (is_false (member s.upper v) (λ z. ready.apart v z t)) (is_true (member s.lower v) t)
        ∙ ap (λ (x : Bool). x ⊕ eqb k v) (ready.seeing v k c) ∙ ap (λ (x : ℕ). set_at g k x ⊕ eqb k x) (sym q)
        ∙ sym (ap (λ (x : Bool). cond x (set_at g k (n + v)) (set_at g k (n + v - n) ⊕ eqb k (n + v - n))) (ltb_no (n + v) n (omega arith))))
        (lower_side v)

    last_like : IsLike small large n small_side large_side capacity (n + n)
    last_like = (
      λ k q c. ap (λ (x : Bool). cond x ((round_system transposed s).entry capacity k) (asked_columns transposed s u k)) (ltb_no capacity capacity (omega arith))
          ∙ asked_row_lem k c ∙ sym (ap (λ (x : Bool). cond x (sys.entry (n + n) k) (asked_row (graph_job n g) (context_of s) u k)) (ltb_no (n + n) (n + n) (omega arith))),
      ap (λ (x : Bool). cond x (round_rows g s u b capacity) (asked_odd g s u b)) (ltb_no capacity capacity (omega arith))
          ∙ asked_bit_lem ∙ sym (ap (λ (x : Bool). cond x (side (n + n)) (asked_bit (graph_job n g) (context_of s) u b)) (ltb_no (n + n) (n + n) (omega arith))),
    )

    small_at_hand : (i : ℕ) → T (small.row i)
    small_at_hand i = by (ltb i capacity)
      where
        by : (c : Bool) → T (cond c true true)
        by true = tt
        by false = tt

    large_in : (v : ℕ) → v < n + n → T (sys.row v) → T (large.row v)
    large_in v h t = subst (λ (x : Bool). T (cond x (sys.row v) true)) (sym (ltb_yes v (n + n) h)) t

    large_out : (v : ℕ) → v < n + n → T (large.row v) → T (sys.row v)
    large_out v h t = subst (λ (x : Bool). T (cond x (sys.row v) true)) (ltb_yes v (n + n) h) t

    there : (q : ℕ) → q < suc (n + n) → T (large.row q) → (i : ℕ) × (i < suc capacity) × T (small.row i) × IsLike small large n small_side large_side i q
    there q h t = by (lt_or_ge q (n + n)) (lt_or_ge q n)
      where
        by : (q < n + n) ⊎ (n + n ≤ q) → (q < n) ⊎ (n ≤ q) → (i : ℕ) × (i < suc capacity) × T (small.row i) × IsLike small large n small_side large_side i q
        by (inl l) (inl m) =
            let r : T (member s.upper q) = subst (λ (c : Bool). T (cond c (member s.upper q) (member s.lower (q - n)))) (ltb_yes q n m) (large_out q l t) in
            let z = member-lt s.upper q r in (q, omega arith, small_at_hand q, upper_like q r)
        by (inl l) (inr m) =
            let r : T (member s.lower (q - n)) = subst (λ (c : Bool). T (cond c (member s.upper q) (member s.lower (q - n)))) (ltb_no q n m) (large_out q l t) in
            let z = member-lt s.lower (q - n) r in
            let y : n + (q - n) ≡ q = omega arith in (q - n, omega arith, small_at_hand (q - n), subst (λ (x : ℕ). IsLike small large n small_side large_side (q - n) x) y (lower_like (q - n) r))
        by (inr l) d = let y : q ≡ n + n = omega arith in (capacity, omega arith, small_at_hand capacity, subst (λ (x : ℕ). IsLike small large n small_side large_side capacity x) (sym y) last_like)

    back : (i : ℕ) → i < suc capacity → T (small.row i) → HasLike small large n small_side large_side i ⊎ IsIdle small large n small_side i
    back i h t = by (lt_or_ge i capacity) (dec (member s.upper i)) (dec (member s.lower i))
      where
        by : (i < capacity) ⊎ (capacity ≤ i) → T (member s.upper i) ⊎ (T (member s.upper i) → ⊥) → T (member s.lower i) ⊎ (T (member s.lower i) → ⊥)
            → HasLike small large n small_side large_side i ⊎ IsIdle small large n small_side i
        by (inl l) (inl a) d =
            let m = ready.within.upper i a in
            inl (i, omega arith, large_in i (omega arith) (subst (λ (c : Bool). T (cond c (member s.upper i) (member s.lower (i - n)))) (sym (ltb_yes i n m)) a), upper_like i a)
        by (inl l) (inr f) (inl a) =
            let m = ready.within.lower i a in
            let y : n + i - n ≡ i = add-sub_cancel_left n i in
            inl (
              n + i,
              omega arith,
              large_in (n + i) (omega arith) (subst (λ (c : Bool). T (cond c (member s.upper (n + i)) (member s.lower (n + i - n)))) (sym (ltb_no (n + i) n (omega arith))) (subst (λ (x : ℕ). T (member s.lower x)) (sym y) a)),
              lower_like i a,
            )
        by (inl l) (inr f) (inr z) = inr (
          λ k m c. ap (λ (x : Bool). cond x ((round_system transposed s).entry i k) (asked_columns transposed s u k)) (ltb_yes i capacity l)
              ∙ ap₂ (λ (x y : Bool). (x && set_at transposed i k) ⊕ (y && (set_at transposed i k ⊕ eqb k i))) (is_false (member s.upper i) f) (is_false (member s.lower i) z),
          ap (λ (x : Bool). cond x (round_rows g s u b i) (asked_odd g s u b)) (ltb_yes i capacity l)
              ∙ ap₂ (λ (x y : Bool). side_bit g u b i && (x || y)) (is_false (member s.upper i) f) (is_false (member s.lower i) z) ∙ and_none (side_bit g u b i),
        )
        by (inr l) d c =
            let y : i ≡ capacity = omega arith in
            inl (subst (λ (x : ℕ). HasLike small large n small_side large_side x) (sym y)
            (n + n, omega arith, subst (λ (x : Bool). T (cond x (sys.row (n + n)) true)) (sym (ltb_no (n + n) (n + n) (omega arith))) tt, last_like))

    none_past : (k : ℕ) → n ≤ k → member s.columns k ≡ false
    none_past k h = is_false (member s.columns k) (λ t. let l = ready.within.columns k t in omega arith)

    same_answer : solve small capacity small_side ≡ solve large n large_side
    same_answer =
        let w = ready.within.nodes in
        let y : n + (capacity - n) ≡ capacity = omega arith in
        ap (λ (k : ℕ). solve small k small_side) (sym y) ∙ solve_past small n (capacity - n) small_side none_past
        ∙ sym (solve_by_rows small large n n small_side large_side
        (λ k l. sym (ap (λ (x : Bool). member s.columns k && not x) (eqb_no k n (λ z. absurd (omega arith))) ∙ and_all (member s.columns k)))
        (λ l c. absurd (omega arith)) there back)

    row_lt : (v : ℕ) → T (round_rows g s u b v) → v < capacity
    row_lt v t = by (or_out (member s.upper v) (member s.lower v) (and_r (side_bit g u b v) (has_row (context_of s) v) t))
      where
        by : T (member s.upper v) ⊎ T (member s.lower v) → v < capacity
        by (inl a) = member-lt s.upper v a
        by (inr a) = member-lt s.lower v a

    abbrev basis : Form
    basis = form_of e reduced preimage kernel

    -- a try in the round is a try with the node's own rows and columns
    pub round_tried : (T (member s.columns u) → T (has_row (context_of s) u))
        → with_node (in_set b) u (answer_from capacity basis (round_rows g s u b) (asked_columns transposed s u) (asked_odd g s u b)) ≡ try_branch (graph_job n g) (for_node (context_of s) u) u b
    round_tried cover =
        ap (with_node (in_set b) u) (ready.solves (round_rows g s u b) (asked_columns transposed s u) (asked_odd g s u b) row_lt ∙ same_answer)
        ∙ sym (try_round_lem (graph_job n g) (context_of s) u b inside cover)

  -- a node in XY whose row is no pivot has none
  pub plain_none : (u m : ℕ) → T (member s.upper u) → m ≡ plane_xy → (T (member e.pivots u) → ⊥) → (T (member s.columns u) → T (has_row (context_of s) u))
      → try_branch (graph_job n g) (for_node (context_of s) u) u m ≡ none
  plain_none u m t z f cover =
      let l = ready.within.upper u t in
      ap (try_branch (graph_job n g) (for_node (context_of s) u) u) z ∙ sym (round_tried u plane_xy l cover)
      ∙ ap (with_node (in_set plane_xy) u) (unreached capacity (form_of e reduced preimage kernel) (round_rows g s u plane_xy) (asked_columns transposed s u) (asked_odd g s u plane_xy) u (member-lt s.upper u t) here alone)
    where
      bits : (v : ℕ) → round_rows g s u plane_xy v ≡ eqb v u && has_row (context_of s) v
      bits v = ap (λ (x : Bool). x && has_row (context_of s) v) (⊕_none (eqb v u && true) ∙ and_all (eqb v u))

      here : T (round_rows g s u plane_xy u)
      here = subst T (sym (bits u ∙ ap (λ (x : Bool). x && has_row (context_of s) u) (eqb_yes u))) (or_l (member s.upper u) (member s.lower u) t)

      alone : (p : ℕ) → T (round_rows g s u plane_xy p) → T (member e.pivots p) → ⊥
      alone p q v = f (subst (λ (x : ℕ). T (member e.pivots x)) (eqb→eq p u (and_l (eqb p u) (has_row (context_of s) p) (subst T (bits p) q))) v)

pub answer_same : (f : Form) {b c r q : ℕ → Bool} {x y : Bool} → b ≡ c → r ≡ q → x ≡ y → answer_from capacity f b r x ≡ answer_from capacity f c q y
answer_same f {b = b} {c = c} {r = r} {q = q} {x = x} {y = y} d e h =
    ap (λ (z : ℕ → Bool). answer_from capacity f z r x) d ∙ ap₂ (λ (z : ℕ → Bool) (w : Bool). answer_from capacity f c z w) e h

pub form_ready : {A : Type 0} (r : Rust.Result A Refusal) (x : A) (matrix : List ℕ) (upper lower column : ℕ → Bool) (e₀ : Echelon) (k₀ r₀ p₀ : List ℕ) (e : Echelon) (kernel reduced preimage : List ℕ) → r ≡ Rust.Ok x
    → FormAfter r matrix upper lower column e₀ k₀ r₀ p₀ e kernel reduced preimage → IsBasisFormed matrix upper lower column kernel reduced preimage e
form_ready {A = A} r x matrix upper lower column e₀ k₀ r₀ p₀ e kernel reduced preimage h a = subst (λ (y : Rust.Result A Refusal). FormAfter y matrix upper lower column e₀ k₀ r₀ p₀ e kernel reduced preimage) h a

-- the solver never refuses a round
pub form_refused : {A : Type 0} (r : Rust.Result A Refusal) (matrix : List ℕ) (upper lower : ℕ → Bool) (kernel reduced preimage : List ℕ) (x : Refusal) → r ≡ Rust.Err x → given (λ e. true) r ≡ asks 11 (form_fits matrix upper lower kernel reduced preimage)
    → (count capacity upper + count capacity lower) * row_bytes ≤ length matrix → length kernel ≡ table_words → length reduced ≡ table_words → length preimage ≡ table_words → ⊥
form_refused r matrix upper lower kernel reduced preimage x e f a b c d =
    never (ap (given (λ e. true)) (sym e) ∙ f ∙ ap (asks 11) (sym (fits_last matrix upper lower kernel reduced preimage a b c) ∙ ap (λ (x : ℕ). eqb x table_words) d ∙ eqb_yes table_words))

-- ---- the sets at hand
-- what Odd has of u
pub odd_one : (r : ℕ → Bool) (u : ℕ) (x : Bool) → x ≡ true → r ≡ (λ v. eqb v u) → r ≡ (λ v. eqb v u && x)
odd_one r u x t e = e ∙ fun_ext (λ v. sym (ap (λ (b : Bool). eqb v u && b) t ∙ and_all (eqb v u)))

pub odd_none : (r : ℕ → Bool) (u : ℕ) (x : Bool) → x ≡ false → r ≡ (λ v. false) → r ≡ (λ v. eqb v u && x)
odd_none r u x t e = e ∙ fun_ext (λ v. sym (ap (λ (b : Bool). eqb v u && b) t ∙ and_none (eqb v u)))

-- and what the rows ask for besides
pub side_in : (g : List ℕ) (u b : ℕ) (odd near r : ℕ → Bool) → odd ≡ (λ v. eqb v u && in_odd b) → in_set b ≡ true → near ≡ set_at g u → r ≡ (λ v. odd v ⊕ near v) → r ≡ side_bit g u b
side_in g u b odd near r a t n e =
    e ∙ ap₂ {C = ℕ → Bool} (λ (f h : ℕ → Bool) (v : ℕ). f v ⊕ h v) a n ∙ fun_ext (λ v. ap (λ (x : Bool). (eqb v u && in_odd b) ⊕ (x && set_at g u v)) (sym t))

pub side_out : (g : List ℕ) (u b : ℕ) (odd : ℕ → Bool) → odd ≡ (λ v. eqb v u && in_odd b) → in_set b ≡ false → odd ≡ side_bit g u b
side_out g u b odd a t = a ∙ fun_ext (λ v. sym (ap (λ (x : Bool). (eqb v u && in_odd b) ⊕ (x && set_at g u v)) t ∙ ⊕_none (eqb v u && in_odd b)))

-- u joins the set where its branch has it
pub own_in : (f : Rust.Option (List ℕ)) (s r : List ℕ) (u b : ℕ) → f ≡ Rust.Some s → in_set b ≡ true → member r ≡ (λ k. member s k || eqb k u)
    → some (member r) ≡ with_node (in_set b) u (solution_of f)
own_in f s r u b e i w =
    ap some w ∙ ap (λ (c : Bool). some (λ k. member s k || c && eqb k u)) (sym i)
    ∙ ap (λ (q : Rust.Option (List ℕ)). with_node (in_set b) u (solution_of q)) (sym e)

pub own_out : (f : Rust.Option (List ℕ)) (s : List ℕ) (u b : ℕ) → f ≡ Rust.Some s → in_set b ≡ false → some (member s) ≡ with_node (in_set b) u (solution_of f)
own_out f s u b e i =
    ap some (fun_ext (λ k. sym (or_false (member s k)))) ∙ ap (λ (c : Bool). some (λ k. member s k || c && eqb k u)) (sym i)
    ∙ ap (λ (q : Rust.Option (List ℕ)). with_node (in_set b) u (solution_of q)) (sym e)
