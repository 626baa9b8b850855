-- The joining law: job and flow as they were loaded are what the file means.
use Prim.Native.Nat.{ℕ, ◌+◌, ◌-◌, ◌*◌, ◌≤◌, ◌<◌}
use mathlib.Core.Path.{◌≡◌, refl, sym, ap, ◌∙◌, fun_ext}
use mathlib.Core.Bool.{Bool, cond, ◌&&◌}
use mathlib.Core.List.{List, ◌++◌}
use mathlib.Core.Option.{Option}
use mathlib.Core.Logic.{◌⊎◌, inl, inr}
use native.Mathlib.Decide.{ℕ_discrete}
use native.Mathlib.Omega.{arith}
use borrow.Author.Tests.{lt-ltb, le-ltb, eq-eqb, le-leb}
use lib.Dec.{leb, ltb}
use lib.ListN.{length, get_or, set, drop, length-replicate, get_or-replicate, get_or-eq_default, get_or-append}
use lib.Seq.{get_or-set_same, get_or-set_other, get_or-append-add, get_or-drop}
use Rattle.nodes.specs.NodeSet.{member, highest}
use Rattle.nodes.specs.SetTable.{set_at}
use Rattle.nodes.specs.Lists.{has, zeros}
use Rattle.nodes.proofs.Logic.{lt_or_ge}
use Rattle.flows.specs.Job.{Job}
use Rattle.angles.specs.AngleRecord.{angle_bytes, inferred_bytes, inferred_into}
use Rattle.angles.proofs.Inferred.{inferred_length}
use Rattle.records.specs.JobFile.{JobFile, has_edge, working_of, job_of}
use Rattle.records.specs.FlowFile.{FlowFile, Flow, entry_in, set_in, flow_of}
use Rattle.records.specs.Encoding.{IsValidJob}
use Rattle.records.proofs.JobFile.{has_small}
use Rattle.answers.specs.Answer.{Refusal}
use Rattle.verdicts.specs.Verdict.{verify}
use Rattle.records.specs.Writing.{flow_bytes}
use Rattle.demands.specs.Calls.{progress_by_mode, Outcome, put}
use Rattle.finder.specs.Searches.{job_in}
use Rattle.calls.specs.Loaded.{flow_in}

module _ (f : JobFile) (valid : IsValidJob f) where
  pub job_is_loaded : (graph measured : List ℕ) (inputs outputs : List ℕ) → ((u v : ℕ) → set_at graph u v ≡ has_edge f.edges u v)
      → member inputs ≡ (λ u. has f.inputs u && leb u highest) → member outputs ≡ (λ u. has f.outputs u && leb u highest)
      → ((u : ℕ) → get_or measured u 0 ≡ get_or (working_of f).measurements u 0) → job_in f.n graph inputs outputs measured ≡ job_of f
  job_is_loaded graph measured inputs outputs edges ins outs m =
      make refl (fun_ext (λ u. fun_ext (λ v. edges u v)))
      (ins ∙ fun_ext (has_small f.n f.inputs valid.few valid.inputs_below))
      (outs ∙ fun_ext (has_small f.n f.outputs valid.few valid.outputs_below))
      (fun_ext m)
    where
      make : {a a' : ℕ} {e e' : ℕ → ℕ → Bool} {i i' o o' : ℕ → Bool} {m m' : ℕ → ℕ} → a ≡ a' → e ≡ e' → i ≡ i' → o ≡ o' → m ≡ m'
          → ◌≡◌ {A = Job} (record { nodes = a; edge = e; input = i; output = o; measured = m }) (record { nodes = a'; edge = e'; input = i'; output = o'; measured = m' })
      make a b c d e = rw (a, b, c, d, e)

-- zeros everywhere, and past the end too
zeros_at : (n u : ℕ) → get_or (zeros n) u 0 ≡ 0
zeros_at n u = by (lt_or_ge u n)
  where
    by : (u < n) ⊎ (n ≤ u) → get_or (zeros n) u 0 ≡ 0
    by (inl h) = get_or-replicate n u 0 0 h
    by (inr h) = get_or-eq_default (zeros n) 0 (omega (arith, length-replicate {A = ℕ} n 0))

-- numbers at the front of a buffer that was 0
pub front_loaded : (p to : List ℕ) → length p ≤ length to → to ≡ zeros (length to) → (u : ℕ) → get_or (p ++ drop (length p) to) u 0 ≡ get_or p u 0
front_loaded p to h z u = by (lt_or_ge u (length p))
  where
    zero_at : (v : ℕ) → get_or to v 0 ≡ 0
    zero_at v = ap (λ (l : List ℕ). get_or l v 0) z ∙ zeros_at (length to) v

    by : (u < length p) ⊎ (length p ≤ u) → get_or (p ++ drop (length p) to) u 0 ≡ get_or p u 0
    by (inl l) = get_or-append p (drop (length p) to) 0 u l
    by (inr l) =
        let at : length p + (u - length p) ≡ u = omega arith in
        ap (λ (k : ℕ). get_or (p ++ drop (length p) to) k 0) (sym at)
        ∙ get_or-append-add p (drop (length p) to) (u - length p) 0
        ∙ get_or-drop (length p) to (u - length p) 0
        ∙ zero_at (length p + (u - length p))
        ∙ sym (get_or-eq_default p 0 l)

-- the measurements that angles infer
pub inferred_loaded : (planes angles to : List ℕ) → length angles ≡ angle_bytes * length planes → length planes ≤ length to → to ≡ zeros (length to)
    → (u : ℕ) → get_or (inferred_into planes angles to) u 0 ≡ get_or (inferred_bytes planes angles) u 0
unfolding inferred_into
inferred_loaded planes angles to s h z u =
    let size : length (inferred_bytes planes angles) ≡ length planes = inferred_length planes angles in
    rw (eq-eqb (length angles) (angle_bytes * length planes) s, le-leb (length planes) (length to) h)
    (ap (λ (k : ℕ). get_or (inferred_bytes planes angles ++ drop k to) u 0) (sym size) ∙ front_loaded (inferred_bytes planes angles) to (omega (arith, size)) z u)

pub flow_is_loaded : (g : FlowFile) (layers sets : List ℕ) (entries : List ℕ) → ((u : ℕ) → get_or layers u 0 ≡ get_or g.layers u 0)
    → ((u : ℕ) → member entries u ≡ entry_in g.sets u) → ((u v : ℕ) → set_at sets u v ≡ set_in g.sets u v) → flow_in layers entries sets ≡ flow_of g
flow_is_loaded g layers sets entries l e s = make (fun_ext l) (fun_ext e) (fun_ext (λ u. fun_ext (λ v. s u v)))
  where
    make : {l l' : ℕ → ℕ} {e e' : ℕ → Bool} {s s' : ℕ → ℕ → Bool} → l ≡ l' → e ≡ e' → s ≡ s'
        → ◌≡◌ {A = Flow} (record { layer = l; entry = e; set = s }) (record { layer = l'; entry = e'; set = s' })
    make a b c = rw (a, b, c)

-- so what is said of the loaded ones is said of the file's
pub verify_joined : (o : Option Refusal) (j j' : Job) (g g' : Flow) (m m' : ℕ) → o ≡ verify j g m → j ≡ j' → g ≡ g' → m ≡ m' → o ≡ verify j' g' m'
verify_joined o j j' g g' m m' e a b c = e ∙ rw (a, b, c)

pub find_joined : (o : Outcome) (work out : List ℕ) (j j' : Job) (m m' : ℕ) → o ≡ put work (flow_bytes j (progress_by_mode m j)) out → j ≡ j' → m ≡ m' → o ≡ put work (flow_bytes j' (progress_by_mode m' j')) out
find_joined o work out j j' m m' e a b = e ∙ rw (a, b)

-- ---- numbers of the nodes, one after the other: the first i of them are in a buffer that was 0
abbrev pub IsFirstIn : (bytes to : List ℕ) → ℕ → Type 0
IsFirstIn bytes to i = (u : ℕ) → get_or to u 0 ≡ cond (ltb u i) (get_or bytes u 0) 0

pub first_none : (bytes to : List ℕ) → to ≡ zeros (length to) → IsFirstIn bytes to 0
first_none bytes to e u = ap (λ (l : List ℕ). get_or l u 0) e ∙ zeros_at (length to) u ∙ sym (ap (λ (b : Bool). cond b (get_or bytes u 0) 0) (le-ltb u 0 (omega arith)))

pub first_more : (bytes to : List ℕ) (i : ℕ) → i < length to → IsFirstIn bytes to i → IsFirstIn bytes (set to i (get_or bytes i 0)) (i + 1)
first_more bytes to i l h u = by (ℕ_discrete u i)
  where
    by : Dec (u ≡ i) → get_or (set to i (get_or bytes i 0)) u 0 ≡ cond (ltb u (i + 1)) (get_or bytes u 0) 0
    by (yes e) = rw (e, get_or-set_same to i (get_or bytes i 0) 0 l, lt-ltb i (i + 1) (omega arith))
    by (no d) = get_or-set_other to i u (get_or bytes i 0) 0 d ∙ h u ∙ ap (λ (b : Bool). cond b (get_or bytes u 0) 0) (side (lt_or_ge u i))
      where
        side : (u < i) ⊎ (i ≤ u) → ltb u i ≡ ltb u (i + 1)
        side (inl a) = rw (lt-ltb u i a, lt-ltb u (i + 1) (omega arith))
        side (inr a) = rw (le-ltb u i a, le-ltb u (i + 1) (past u i a d))
          where
            past : (u i : ℕ) → i ≤ u → (u ≡ i → ⊥) → i + 1 ≤ u
            past u i a d = omega arith

pub first_all : (bytes to : List ℕ) (i : ℕ) → length bytes ≤ i → IsFirstIn bytes to i → (u : ℕ) → get_or to u 0 ≡ get_or bytes u 0
first_all bytes to i l h u = h u ∙ by (lt_or_ge u i)
  where
    by : (u < i) ⊎ (i ≤ u) → cond (ltb u i) (get_or bytes u 0) 0 ≡ get_or bytes u 0
    by (inl a) = rw (lt-ltb u i a)
    by (inr a) = rw (le-ltb u i a) (sym (get_or-eq_default bytes 0 (omega arith)))
