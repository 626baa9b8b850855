-- For find.rt: what is written of the search of a job that was loaded is what the definition says.
use Prim.Native.Nat.{ℕ, zero, suc, ◌≤◌, ◌<◌}
use mathlib.Core.Path.{◌≡◌, refl, sym, ◌∙◌}
use mathlib.Core.Bool.{Bool, true, false, cond, not, ◌&&◌, ◌||◌}
use mathlib.Core.Option.{some}
use mathlib.Core.List.{List, []}
use native.Mathlib.Omega.{arith}
use borrow.Author.Tests.{le-leb, eq-eqb, eqb-true}
use lib.Dec.{T, eqb, leb, ltb}
use lib.ListN.{length}
use Rattle.nodes.specs.Row.{all_below}
use Rattle.nodes.specs.NodeSet.{member, highest, capacity}
use Rattle.nodes.specs.SetTable.{table_words}
use Rattle.nodes.proofs.Logic.{is_true}
use Rattle.nodes.proofs.Row.{all_in}
use Rattle.flows.specs.Job.{Job}
use Rattle.flows.specs.Search.{Progress}
use Rattle.flows.specs.Planes as Planes
use Rattle.flows.specs.Paulis as Paulis
use Rattle.finder.specs.Searches.{job_in, sizes_fit, layers_of, set_table, progress_at, is_plane, planes_given, is_flow, searched, search_call}
use Rattle.finder.specs.declared.search.Search.{Search}
use Rattle.finder.specs.declared.search.Search.TheVariants.{Flow, NoFlow}
use Rattle.std.specs.Prelude.{Result, Ok, Err}
use Rattle.answers.specs.Refusals.{given}
use Rattle.finder.proofs.Below.{progress_below}
use Rattle.answers.specs.declared.Refusal as Code
use Rattle.answers.specs.Answer.{Answer, gives}
use Rattle.answers.proofs.Answer.{give_inj, never}
use Rattle.records.specs.Records.{written, kind_no_flow}
use Rattle.nodes.specs.Lists.{zeros}
use Rattle.records.specs.JobFile.{JobFile, read_job, mode_planes, mode_pauli, job_of}
use Rattle.records.specs.Encoding.{IsValidJob}
use Rattle.records.specs.Writing.{flow_bytes}
use Rattle.records.specs.Splice.{put_front, put_answer}
use Rattle.records.proofs.JobFile.{measured_plane}
use Rattle.calls.proofs.Found.{found_written}
use Rattle.solver.specs.Solver.{work_bytes}
use Rattle.demands.specs.Calls.{mode_of, progress_by_mode, found_bytes, Outcome, put, find_asks, find_call}
use Rattle.calls.specs.Replies.{records_for}

-- ---- the buffers
pub put_is : (b out : List ℕ) (answer : Answer ℕ) (o w work : List ℕ) → answer ≡ put_answer b out → o ≡ put_front b out → work ≡ w
    → ◌≡◌ {A = Outcome} (record { answer = answer; work = work; out = o }) (put w b out)
unfolding put
put_is b out answer o w work p q e = rw (p, q, e)

-- what a search's answer says
module _ (b : Bool) (r : Result Search Code.Refusal) (e : given is_flow r ≡ gives b) where
  pub told_flow : r ≡ Ok Flow → b ≡ true
  told_flow h = sym (give_inj (rw h at e))

  pub told_none : r ≡ Ok NoFlow → b ≡ false
  told_none h = sym (give_inj (rw h at e))

  pub told_right : (q : Code.Refusal) → r ≡ Err q → ⊥
  told_right q h = never (rw h at e)

-- ---- a job that was read
module _ (f : JobFile) (valid : IsValidJob f) where
  -- each node of a job for planes is measured in a plane
  pub planes_read : (not (eqb (mode_of f) mode_planes) || planes_given (job_of f)) ≡ true
  planes_read = by (eqb (mode_of f) mode_planes) refl
    where
      plane : (k : ℕ) → 1 ≤ k → k ≤ 3 → T (is_plane k)
      plane zero a b = absurd (none_of a)
        where
          none_of : 1 ≤ 0 → ⊥
          none_of a = omega arith
      plane (suc zero) a b = tt
      plane (suc (suc zero)) a b = tt
      plane (suc (suc (suc zero))) a b = tt
      plane (suc (suc (suc (suc k)))) a b = absurd (more k b)
        where
          more : (k : ℕ) → suc (suc (suc (suc k))) ≤ 3 → ⊥
          more k b = omega arith

      node : mode_of f ≡ mode_planes → (u : ℕ) → u < f.n → (b : Bool) → (job_of f).output u ≡ b → T (b || is_plane ((job_of f).measured u))
      node e u l true o = tt
      node e u l false o = let (a, b) = measured_plane f valid e u l o in plane ((job_of f).measured u) a b

      by : (b : Bool) → b ≡ eqb (mode_of f) mode_planes → (not b || planes_given (job_of f)) ≡ true
      by true e = is_true (planes_given (job_of f)) (all_in f.n (λ u. (job_of f).output u || is_plane ((job_of f).measured u)) (λ u l. node (eqb-true (mode_of f) mode_planes (sym e)) u l ((job_of f).output u) refl))
      by false e = refl

  -- and so is each node of the job that was loaded of it
  pub planes_loaded : (j : Job) (mode : ℕ) → j ≡ job_of f → mode ≡ mode_of f → (not (eqb mode mode_planes) || planes_given j) ≡ true
  planes_loaded j mode e m = rw (e, m) planes_read

-- ---- the search of a job that was loaded, and what is written of it
module _ (n mode : ℕ) (graph measured : List ℕ) (inputs outputs : List ℕ) where
  abbrev j : Job
  j = job_in n graph inputs outputs measured

  abbrev pauli : Bool
  pauli = not (eqb mode mode_planes)

  abbrev pub progress_of : Progress
  progress_of = progress_at pauli j

  pub search_goes : (work layers sets : List ℕ) → n ≤ capacity → n ≤ length measured
      → (length graph ≡ table_words) × (length work ≡ work_bytes) × (length layers ≡ capacity) × (length sets ≡ table_words) → (pauli || planes_given j) ≡ true
      → search_call pauli n graph inputs outputs measured work layers sets ≡ searched n progress_of
  unfolding search_call sizes_fit
  search_goes work layers sets few given sizes planes =
      rw (
        le-leb n capacity few,
        eq-eqb (length graph) table_words sizes.0,
        le-leb n (length measured) given,
        eq-eqb (length work) work_bytes sizes.1,
        eq-eqb (length layers) capacity sizes.2,
        eq-eqb (length sets) table_words sizes.3,
        planes,
      )

  pub flow_written : n ≤ capacity → all_below n progress_of.solved ≡ true
      → records_for n (member outputs) (layers_of n progress_of) (set_table n progress_of) ≡ flow_bytes j (progress_by_mode mode j)
  flow_written few a =
      found_written n few progress_of j refl (progress_below pauli j) (λ u. (ltb u n && leb u highest) && not (member outputs u)) refl
      ∙ by (eqb mode mode_planes) a
    where
      by : (b : Bool) → all_below n (progress_at (not b) j).solved ≡ true → flow_bytes j (some (progress_at (not b) j)) ≡ flow_bytes j (cond b (Planes.find j) (Paulis.find j))
      by true a = rw a
      by false a = rw a

  pub none_written : all_below n progress_of.solved ≡ false → written kind_no_flow [] ≡ flow_bytes j (progress_by_mode mode j)
  none_written a = by (eqb mode mode_planes) a
    where
      by : (b : Bool) → all_below n (progress_at (not b) j).solved ≡ false → written kind_no_flow [] ≡ flow_bytes j (cond b (Planes.find j) (Paulis.find j))
      by true a = rw a
      by false a = rw a

-- ---- the call of a job that passed the questions before the search
pub find_goes : (s work out : List ℕ) (f : JobFile) → read_job s ≡ gives f → eqb (length f.after) 0 ≡ true → (eqb f.mode mode_planes || eqb f.mode mode_pauli) ≡ true
    → length work ≡ work_bytes → put (zeros work_bytes) (found_bytes f) out ≡ find_call s work out
unfolding find_call find_asks
find_goes s work out f read a b d = sym (rw (read, a, b, eq-eqb (length work) work_bytes d, d))
