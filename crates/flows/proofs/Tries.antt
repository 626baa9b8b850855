-- The tries of both searches: one context for planes and Paulis. What a try gives is right, and what is right is found.
use Prim.Native.Nat.{ℕ, ◌+◌, ◌-◌, ◌≤◌, ◌<◌}
use mathlib.Core.Path.{◌≡◌, refl, sym, ap, ◌∙◌, subst, fun_ext}
use mathlib.Core.Bool.{Bool, true, false, cond, not, ◌&&◌, ◌||◌}
use mathlib.Core.Logic.{◌⊎◌, inl, inr}
use mathlib.Core.Option.{Option, none, some, some-injective, none-ne-some}
use mathlib.Core.List.{List, [], ◌∷◌, ◌++◌}
use native.Mathlib.Omega.{arith}
use lib.Dec.{T, eqb, ltb, eqb→eq, eqb_refl, ltb→lt, nltb→le}
use Rattle.nodes.proofs.Logic.{is_true, is_false, dec, and_l, and_r, and_in, or_l, or_r, or_out, not_in, not_out, eqb_yes, and_all, or_false}
use Rattle.nodes.proofs.Count.{IsWithin}
use Rattle.nodes.specs.Options.{is_some, option_or}
use Rattle.solver.specs.System.{IsBasicSolution, solve}
use Rattle.solver.proofs.System.{solve_answer, Agree, solve_ext}
use Rattle.flows.specs.Job.{Job, odd, own}
use Rattle.flows.specs.Branch.{Context, in_set, in_odd, branches, system_at, side_at, with_node, try_branch, first_solvable, try_node}
use Rattle.flows.specs.Planes as Planes
use Rattle.flows.specs.Tries.{context_at, try_at}
use Rattle.flows.proofs.Branch.{Fits, fits_some, some_fits}
use Rattle.nodes.specs.Lists.{has}
use Rattle.flows.proofs.Table.{branch_own, branch_of, own_branch}
use Rattle.flows.specs.Conditions.{member_excused, odd_excused, y_asked, corrects}
use Rattle.flows.proofs.Conditions.{Corrects, corrects_in, corrects_out, more_later}

-- ---- for a node that is not later, the planes' context is the joint one
pub planes_context : (j : Job) (later : ℕ → Bool) (u : ℕ) → (T (later u) → ⊥) → context_at j false later u ≡ Planes.context j later
planes_context j later u f = make (fun_ext (λ k. column' k (dec (eqb k u)))) (fun_ext (λ v. upper' v (dec (eqb v u)))) (fun_ext (λ v. lower' (not (later v)) (eqb v u)))
  where
    make : {a a' b b' c c' : ℕ → Bool} → a ≡ a' → b ≡ b' → c ≡ c' → ◌≡◌ {A = Context} (record { column = a; upper = b; lower = c }) (record { column = a'; upper = b'; lower = c' })
    make p q r = rw (p, q, r)

    column' : (k : ℕ) → T (eqb k u) ⊎ (T (eqb k u) → ⊥) → ((later k || false) && not (j.input k)) && not (eqb k u) ≡ later k && not (j.input k)
    column' k (inl t) = rw (eqb→eq k u t, is_false (later u) f)
    column' k (inr d) = rw (is_false (eqb k u) d, or_false (later k), and_all (later k && not (j.input k)))

    upper' : (v : ℕ) → T (eqb v u) ⊎ (T (eqb v u) → ⊥) → (not (later v) && true) || eqb v u ≡ not (later v)
    upper' v (inl t) = rw (eqb→eq v u t, is_false (later u) f)
    upper' v (inr d) = rw (is_false (eqb v u) d, and_all (not (later v)), or_false (not (later v)))

    lower' : (a b : Bool) → (a && false) && not b ≡ false
    lower' true b = refl
    lower' false b = refl

-- ---- a try depends on the nodes below n only
pub record SameContext (j : Job) (c d : Context) : Type 0 where
  pub column : (k : ℕ) → k < j.nodes → c.column k ≡ d.column k
  pub upper : (v : ℕ) → v < j.nodes → c.upper v ≡ d.upper v
  pub lower : (v : ℕ) → v < j.nodes → c.lower v ≡ d.lower v

module _ (j : Job) (c d : Context) (same : SameContext j c d) (u : ℕ) where
  agree : Agree (system_at j c) (system_at j d) j.nodes
  agree = record { rows = refl; row = λ i l. row' i l (dec (ltb i j.nodes)); column = same.column; entry = λ i k l m a b. refl }
    where
      row' : (i : ℕ) → i < j.nodes + j.nodes → T (ltb i j.nodes) ⊎ (T (ltb i j.nodes) → ⊥)
          → cond (ltb i j.nodes) (c.upper i) (c.lower (i - j.nodes)) ≡ cond (ltb i j.nodes) (d.upper i) (d.lower (i - j.nodes))
      row' i l (inl t) = rw (is_true (ltb i j.nodes) t, same.upper i (ltb→lt i j.nodes t))
      row' i l (inr f) = let g : j.nodes ≤ i = nltb→le i j.nodes (not_in (ltb i j.nodes) f) in rw (is_false (ltb i j.nodes) f, same.lower (i - j.nodes) (omega arith))

  pub branch_ext : (b : ℕ) → try_branch j c u b ≡ try_branch j d u b
  branch_ext b = ap (with_node (in_set b) u) (solve_ext (system_at j c) (system_at j d) j.nodes agree (side_at j u b) (side_at j u b) (λ i l t. refl))

  first_ext : (bs : List ℕ) → first_solvable j c u bs ≡ first_solvable j d u bs
  unfolding first_solvable
  first_ext [] = refl
  first_ext (b ∷ bs) = rw (branch_ext b, first_ext bs)

  pub node_ext : try_node j c u ≡ try_node j d u
  node_ext = first_ext (branches (j.measured u))

-- ---- the first solvable branch
module _ (j : Job) (c : Context) (u : ℕ) where
  pub first_some : (bs : List ℕ) (b : ℕ) → T (has bs b) → T (is_some (try_branch j c u b)) → T (is_some (first_solvable j c u bs))
  unfolding has first_solvable
  first_some [] b h t = absurd h
  first_some (a ∷ bs) b h t = go (try_branch j c u a) refl (or_out (eqb a b) (has bs b) h) (first_some bs b)
    where
      go : (o : Option (ℕ → Bool)) → try_branch j c u a ≡ o → T (eqb a b) ⊎ T (has bs b) → (T (has bs b) → T (is_some (try_branch j c u b)) → T (is_some (first_solvable j c u bs)))
          → T (is_some (option_or o (first_solvable j c u bs)))
      go (some x) e q ih = tt
      go none e (inl q) ih = absurd (rw (← eqb→eq a b q, e) at t)
      go none e (inr q) ih = ih q t

  -- the branch that gave the set: the branches before it in the row gave none
  pub record IsFirstOf (bs : List ℕ) (set : ℕ → Bool) : Type 0 where
    pub earlier : List ℕ
    pub branch : ℕ
    pub later : List ℕ
    pub row : bs ≡ earlier ++ (branch ∷ later)
    pub unsolvable : (b : ℕ) → T (has earlier b) → try_branch j c u b ≡ none
    pub gave : try_branch j c u branch ≡ some set

  pub first_of_solvable : (bs : List ℕ) (set : ℕ → Bool) → first_solvable j c u bs ≡ some set → IsFirstOf bs set
  unfolding has first_solvable
  first_of_solvable [] set e = absurd (none-ne-some _ e)
  first_of_solvable (a ∷ bs) set e = go (try_branch j c u a) refl e (first_of_solvable bs set)
    where
      go : (o : Option (ℕ → Bool)) → try_branch j c u a ≡ o → option_or o (first_solvable j c u bs) ≡ some set → (first_solvable j c u bs ≡ some set → IsFirstOf bs set) → IsFirstOf (a ∷ bs) set
      go (some x) p e ih = record { earlier = []; branch = a; later = bs; row = refl; unsolvable = λ b t. absurd t; gave = p ∙ e }
      go none p e ih =
          let f = ih e in record {
            earlier = a ∷ f.earlier;
            branch = f.branch;
            later = f.later;
            row = ap (λ (l : List ℕ). a ∷ l) f.row;
            unsolvable = λ b t. by b (or_out (eqb a b) (has f.earlier b) t) (f.unsolvable b);
            gave = f.gave;
          }
        where
          by : (b : ℕ) → T (eqb a b) ⊎ T (has (ih e).earlier b) → (T (has (ih e).earlier b) → try_branch j c u b ≡ none) → try_branch j c u b ≡ none
          by b (inl q) f = rw (← eqb→eq a b q) p
          by b (inr q) f = f q

-- ---- what a try gives is right
-- a list with b in it
pub has_in : (l : List ℕ) (b : ℕ) (r : List ℕ) → T (has (l ++ (b ∷ r)) b)
unfolding has
has_in [] b r = or_l (eqb b b) (has r b) (eqb_refl b)
has_in (a ∷ l) b r = or_r (eqb a b) (has (l ++ (b ∷ r)) b) (has_in l b r)

-- the answer of the solver behind a branch's set
pub branch_answer : (j : Job) (c : Context) (u b : ℕ) (set : ℕ → Bool) → try_branch j c u b ≡ some set
    → (x : ℕ → Bool) × IsBasicSolution (system_at j c) j.nodes (side_at j u b) x × (set ≡ (λ k. x k || in_set b && eqb k u))
branch_answer j c u b set e = go (solve (system_at j c) j.nodes (side_at j u b)) (solve_answer (system_at j c) j.nodes (side_at j u b)) e
  where
    go : (o : Option (ℕ → Bool)) → ((x : ℕ → Bool) → o ≡ some x → IsBasicSolution (system_at j c) j.nodes (side_at j u b) x) → with_node (in_set b) u o ≡ some set
        → (x : ℕ → Bool) × IsBasicSolution (system_at j c) j.nodes (side_at j u b) x × (set ≡ (λ k. x k || in_set b && eqb k u))
    go none f e = absurd (none-ne-some _ e)
    go (some x) f e = (x, f x refl, sym (some-injective _ _ e))

module _ (j : Job) (pauli : Bool) (later : ℕ → Bool) (u : ℕ) where
  abbrev here : Context
  here = context_at j pauli later u

  abbrev entering : ℕ → Bool
  entering k = later k || member_excused j pauli k

  pub no_column_u : T (here.column u) → ⊥
  no_column_u t = not_out (eqb u u) (and_r (entering u && not (j.input u)) (not (eqb u u)) t) (eqb_refl u)

  no_lower_u : T (here.lower u) → ⊥
  no_lower_u t = not_out (eqb u u) (and_r (not (later u) && y_asked j pauli u) (not (eqb u u)) t) (eqb_refl u)

  is_u : (k : ℕ) → T (eqb k u) → k ≡ u
  is_u k t = eqb→eq k u t

  -- a set that fits a branch of u's measurement is right
  pub fits_corrects : (b : ℕ) → T (own (j.measured u) (in_set b) (in_odd b)) → u < j.nodes → (set : ℕ → Bool) → Fits j here u b set → Corrects j pauli later set u
  fits_corrects b t h set f = record {
    inputs = λ k l a i. input' k (f.taken k l a) i;
    members = λ k l a. member' k (f.taken k l a);
    odds = λ k l a. odd' k l a (dec (eqb k u)) (dec (later k)) (dec (odd_excused j pauli k));
    ys = λ k l a. y' k l a (dec (eqb k u)) (dec (later k));
    owns = rw (f.self, f.ups u h (or_r (not (later u) && not (odd_excused j pauli u)) (eqb u u) (eqb_refl u)), eqb_yes u) t;
  }
    where
      input' : (k : ℕ) → (k ≡ u) ⊎ T (here.column k) → T (j.input k) → k ≡ u
      input' k (inl e) i = e
      input' k (inr q) i = absurd (not_out (j.input k) (and_r (entering k) (not (j.input k)) (and_l (entering k && not (j.input k)) (not (eqb k u)) q)) i)

      member' : (k : ℕ) → (k ≡ u) ⊎ T (here.column k) → (k ≡ u) ⊎ (T (later k) ⊎ T (member_excused j pauli k))
      member' k (inl e) = inl e
      member' k (inr q) = inr (or_out (later k) (member_excused j pauli k) (and_l (entering k) (not (j.input k)) (and_l (entering k && not (j.input k)) (not (eqb k u)) q)))

      odd' : (k : ℕ) → k < j.nodes → T (odd j set k) → T (eqb k u) ⊎ (T (eqb k u) → ⊥) → T (later k) ⊎ (T (later k) → ⊥) → T (odd_excused j pauli k) ⊎ (T (odd_excused j pauli k) → ⊥)
          → (k ≡ u) ⊎ (T (later k) ⊎ T (odd_excused j pauli k))
      odd' k l a (inl e) g y = inl (is_u k e)
      odd' k l a (inr d) (inl g) y = inr (inl g)
      odd' k l a (inr d) (inr g) (inl y) = inr (inr y)
      odd' k l a (inr d) (inr g) (inr y) =
          absurd
          (d (and_l (eqb k u) (in_odd b)
          (rw (f.ups k l
          (or_l (not (later k) && not (odd_excused j pauli k)) (eqb k u)
          (and_in (not (later k)) (not (odd_excused j pauli k)) (not_in (later k) g) (not_in (odd_excused j pauli k) y)))) at a)))

      y' : (k : ℕ) → k < j.nodes → T (y_asked j pauli k) → T (eqb k u) ⊎ (T (eqb k u) → ⊥) → T (later k) ⊎ (T (later k) → ⊥) → (k ≡ u) ⊎ (T (later k) ⊎ (odd j set k ≡ set k))
      y' k l a (inl e) g = inl (is_u k e)
      y' k l a (inr d) (inl g) = inr (inl g)
      y' k l a (inr d) (inr g) =
          inr (inr (f.lows k l (and_in (not (later k) && y_asked j pauli k) (not (eqb k u)) (and_in (not (later k)) (y_asked j pauli k) (not_in (later k) g) a) (not_in (eqb k u) d))))

  -- a right set fits the branch of its pair
  pub corrects_fits : (b : ℕ) (set : ℕ → Bool) → Corrects j pauli later set u → set u ≡ in_set b → odd j set u ≡ in_odd b → Fits j here u b set
  corrects_fits b set holds s o = record { taken = taken'; ups = λ v l t. ups' v l t (dec (eqb v u)); lows = lows'; self = s }
    where
      taken' : (k : ℕ) → k < j.nodes → T (set k) → (k ≡ u) ⊎ T (here.column k)
      taken' k l t = go (dec (eqb k u)) (holds.members k l t)
        where
          column' : (T (eqb k u) → ⊥) → T (entering k) → T (here.column k)
          column' d a =
              and_in (entering k && not (j.input k)) (not (eqb k u))
              (and_in (entering k) (not (j.input k)) a (not_in (j.input k) (λ i. d (rw (holds.inputs k l t i) (eqb_refl u)))))
              (not_in (eqb k u) d)

          go : T (eqb k u) ⊎ (T (eqb k u) → ⊥) → (k ≡ u) ⊎ (T (later k) ⊎ T (member_excused j pauli k)) → (k ≡ u) ⊎ T (here.column k)
          go (inl e) q = inl (is_u k e)
          go (inr d) (inl e) = inl e
          go (inr d) (inr (inl g)) = inr (column' d (or_l (later k) (member_excused j pauli k) g))
          go (inr d) (inr (inr m)) = inr (column' d (or_r (later k) (member_excused j pauli k) m))

      ups' : (v : ℕ) → v < j.nodes → T (here.upper v) → T (eqb v u) ⊎ (T (eqb v u) → ⊥) → odd j set v ≡ eqb v u && in_odd b
      ups' v l t (inl e) = rw (is_u v e, eqb_yes u) o
      ups' v l t (inr d) = rw (is_false (eqb v u) d) (is_false (odd j set v) (λ a. by (holds.odds v l a)))
        where
          asked : T (not (later v) && not (odd_excused j pauli v))
          asked = rw (is_false (eqb v u) d, or_false (not (later v) && not (odd_excused j pauli v))) at t

          by : (v ≡ u) ⊎ (T (later v) ⊎ T (odd_excused j pauli v)) → ⊥
          by (inl e) = d (rw e (eqb_refl u))
          by (inr (inl g)) = not_out (later v) (and_l (not (later v)) (not (odd_excused j pauli v)) asked) g
          by (inr (inr m)) = not_out (odd_excused j pauli v) (and_r (not (later v)) (not (odd_excused j pauli v)) asked) m

      lows' : (v : ℕ) → v < j.nodes → T (here.lower v) → odd j set v ≡ set v
      lows' v l t = by (holds.ys v l (and_r (not (later v)) (y_asked j pauli v) asked))
        where
          asked : T (not (later v) && y_asked j pauli v)
          asked = and_l (not (later v) && y_asked j pauli v) (not (eqb v u)) t

          by : (v ≡ u) ⊎ (T (later v) ⊎ (odd j set v ≡ set v)) → odd j set v ≡ set v
          by (inl e) = absurd (not_out (eqb v u) (and_r (not (later v) && y_asked j pauli v) (not (eqb v u)) t) (rw e (eqb_refl u)))
          by (inr (inl g)) = absurd (not_out (later v) (and_l (not (later v)) (y_asked j pauli v) asked) g)
          by (inr (inr e)) = e

  pub try_first : (set : ℕ → Bool) → try_at j pauli later u ≡ some set → IsFirstOf j here u (branches (j.measured u)) set
  try_first = first_of_solvable j here u (branches (j.measured u))

  module _ (h : u < j.nodes) (m : j.measured u < 7) where
    pub try_sound : (set : ℕ → Bool) → try_at j pauli later u ≡ some set → T (corrects j pauli later set u)
    try_sound set e =
        let f = try_first set e in
        let (x, a, w) = branch_answer j here u f.branch set f.gave in
        corrects_in j pauli later set u
        (fits_corrects f.branch (branch_own (j.measured u) f.branch m (rw f.row (has_in f.earlier f.branch f.later))) h set
        (subst (λ (z : ℕ → Bool). Fits j here u f.branch z) (sym w) (some_fits j here u f.branch h no_lower_u no_column_u x a)))

    -- a node with a right set is solved
    pub try_complete : (set : ℕ → Bool) → T (corrects j pauli later set u) → T (is_some (try_at j pauli later u))
    try_complete set c =
        let holds = corrects_out j pauli later set u c in
        let (l, s, o) = own_branch (j.measured u) (set u) (odd j set u) m holds.owns in
        first_some j here u (branches (j.measured u)) (branch_of (set u) (odd j set u)) l
        (fits_some j here u (branch_of (set u) (odd j set u)) h no_lower_u set (corrects_fits (branch_of (set u) (odd j set u)) set holds s o))

    -- and a node that is solved has one
    pub try_right : T (is_some (try_at j pauli later u)) → (set : ℕ → Bool) × T (corrects j pauli later set u)
    try_right t = go (try_at j pauli later u) refl t
      where
        go : (o : Option (ℕ → Bool)) → try_at j pauli later u ≡ o → T (is_some o) → (set : ℕ → Bool) × T (corrects j pauli later set u)
        go none e t = absurd t
        go (some set) e t = (set, try_sound set e)

-- ---- a node that is solved is still solved where more nodes are later: by the same set
pub try_monotone : (j : Job) (pauli : Bool) (s t : ℕ → Bool) → IsWithin j.nodes s t → (u : ℕ) → u < j.nodes → j.measured u < 7 → T (is_some (try_at j pauli s u)) → T (is_some (try_at j pauli t u))
try_monotone j pauli s t w u h m a =
    let (set, c) = try_right j pauli s u h m a in
    try_complete j pauli t u h m set (more_later j pauli s t w set u c)

-- ---- a try depends on the later nodes below n only
module _ (j : Job) (pauli : Bool) (later later' : ℕ → Bool) (same : (v : ℕ) → v < j.nodes → later v ≡ later' v) (u : ℕ) where
  contexts_agree : SameContext j (context_at j pauli later u) (context_at j pauli later' u)
  contexts_agree = record { column = λ k l. rw (same k l); upper = λ v l. rw (same v l); lower = λ v l. rw (same v l) }

  pub try_ext : try_at j pauli later u ≡ try_at j pauli later' u
  try_ext = node_ext j (context_at j pauli later u) (context_at j pauli later' u) contexts_agree u
