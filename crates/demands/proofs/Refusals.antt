-- Every refusal of the questions in specs/Calls, but of those that ask for the owner (24), has a number from 1 to 23, but not the writer's 20, and a byte a; its b fits two bytes, where
-- the file holds bytes.
use Prim.Native.Nat.{ℕ, zero, suc, ◌+◌, ◌≤◌, ◌<◌}
use mathlib.Core.Path.{◌≡◌, refl}
use mathlib.Core.Bool.{Bool, true, false, cond, not, ◌&&◌, ◌||◌}
use mathlib.Core.Option.{Option, none, some}
use mathlib.Core.Logic.{◌≢◌, ◌⊎◌, inl, inr}
use mathlib.Core.List.{List, [], ◌∷◌}
use native.Mathlib.Omega.{arith}
use lib.Dec.{T, eqb, leb, eqb→eq, leb→le}
use lib.ListN.{length, get_or}
use Rattle.nodes.specs.Options.{is_some}
use Rattle.nodes.proofs.Logic.{from_true, and_l, and_r, or_out}
use Rattle.answers.specs.Answer.{Refusal, Answer, gives, refuses, refusal, asks, ◌>>=◌, ◌>>◌}
use Rattle.records.specs.JobFile.{JobFile, most_nodes, rises, read_job, job_of, mode_causal}
use Rattle.records.specs.FlowFile.{FlowFile, Flow, all_entries, read_flow, flow_of, entry_below, entry_of, entry_asks}
use Rattle.records.specs.Encoding.{IsBytes}
use Rattle.records.proofs.Records.{below_at}
use Rattle.records.proofs.ReadingRefusals.{is_reading, IsReadingRefusal}
use Rattle.records.proofs.Encoding.{job_asked, job-after, job-refuses, flow_asked, flow-layers, flow-refuses}
use Rattle.flows.specs.Job.{Job}
use Rattle.solver.specs.Solver.{work_bytes}
use Rattle.verdicts.specs.Verdict as Q
use Rattle.verdicts.specs.Verdict.{ask, ◌next◌, each_from, each}
use Rattle.demands.specs.Calls.{owner, mode_of, has_search, find_asks, read_both, edit_asks, read_angles_asks, verdict, lists_match, judge, verify_asks}
use Rattle.demands.proofs.Judging.{both_out}

pub record IsNumbered (bytes : Type 0) (r : Refusal) : Type 0 where
  pub number : 1 ≤ r.number
  pub most : r.number < 24
  pub unwritten : r.number ≢ 20
  pub a : r.a < 256
  pub b : bytes → r.b < 65536

-- ---- the calls
module _ (bytes : Type 0) where
  -- an answer that gives something, or such a refusal
  unfoldable pub AllNumbered : {A : Type 0} → Answer A → Type 0
  AllNumbered (gives a) = Unit
  AllNumbered (refuses r) = IsNumbered bytes r

  unused : (q : ℕ) → 1 ≤ q → q < 24 → q ≢ 20 → IsNumbered bytes (refusal q)
  unused q h g d = record { number = h; most = g; unwritten = d; a = omega arith; b = λ x. omega arith }

  pub given : {A : Type 0} (a : A) → AllNumbered (gives a)
  unfolding AllNumbered
  given a = tt

  pub asks-then : {A : Type 0} (q : ℕ) (c : Bool) (k : Answer A) → 1 ≤ q → q < 20 → AllNumbered k → AllNumbered (asks q c >> k)
  unfolding AllNumbered
  asks-then q true k h g t = t
  asks-then q false k h g t = unused q h (omega arith) (λ e. omega arith)

  pub asks_last : (q : ℕ) (c : Bool) → 1 ≤ q → q < 20 → AllNumbered (asks q c)
  unfolding AllNumbered
  asks_last q true h g = tt
  asks_last q false h g = unused q h (omega arith) (λ e. omega arith)

  -- question 22 comes behind 13 to 19
  signals_numbered : (c : Bool) → AllNumbered (asks 22 c)
  unfolding AllNumbered
  signals_numbered true = tt
  signals_numbered false = unused 22 (omega arith) (omega arith) (λ e. omega arith)

  bind_numbered : {A B : Type 0} (m : Answer A) (k : A → Answer B) → AllNumbered m → ((a : A) → m ≡ gives a → AllNumbered (k a)) → AllNumbered (m >>= k)
  unfolding AllNumbered
  bind_numbered (gives a) k t h = h a refl
  bind_numbered (refuses r) k t h = t

  then_numbered : {A B : Type 0} (m : Answer A) (k : Answer B) → AllNumbered m → AllNumbered k → AllNumbered (m >> k)
  unfolding AllNumbered
  then_numbered (gives a) k t h = h
  then_numbered (refuses r) k t h = t

  -- ---- reading: its refusals have numbers up to 7, or 23, and no a and b
  reading : (r : Refusal) → IsReadingRefusal r → IsNumbered bytes r
  reading r h = rw h.same (by h.number (or_out (leb 1 h.number && leb h.number 7) (eqb h.number 23) (from_true (is_reading h.number) h.reading)))
    where
      by : (q : ℕ) → T (leb 1 q && leb q 7) ⊎ T (eqb q 23) → IsNumbered bytes (refusal q)
      by q (inl t) =
          let from : 1 ≤ q = leb→le 1 q (and_l (leb 1 q) (leb q 7) t) in
          let to : q ≤ 7 = leb→le q 7 (and_r (leb 1 q) (leb q 7) t) in
          unused q from (omega arith) (λ e. omega arith)
      by q (inr t) = let e : q ≡ 23 = eqb→eq q 23 t in unused q (omega arith) (omega arith) (λ d. omega arith)

  read_numbered : {A : Type 0} (m : Answer A) → ((r : Refusal) → m ≡ refuses r → IsReadingRefusal r) → AllNumbered m
  unfolding AllNumbered
  read_numbered (gives a) h = tt
  read_numbered (refuses r) h = reading r (h r refl)

  job_numbered : (s : List ℕ) → AllNumbered (read_job s)
  job_numbered s = read_numbered (read_job s) (job-refuses s)

  flow_numbered : (n : ℕ) (s : List ℕ) → n ≤ most_nodes → AllNumbered (read_flow n s)
  flow_numbered n s h = read_numbered (read_flow n s) (λ r. flow-refuses n s r h)

  pub find_numbered : (file work : List ℕ) → AllNumbered (find_asks file work)
  unfolding find_asks
  find_numbered file work =
      bind_numbered (read_job file) _ (job_numbered file)
      (λ f e. asks-then 8 (eqb (length f.after) 0) _ (omega arith) (omega arith)
      (asks-then 10 (has_search f.mode) _ (omega arith) (omega arith) (asks-then 11 (eqb (length work) work_bytes) _ (omega arith) (omega arith) (given f))))

  -- ---- the questions on a flow
  unfoldable pub IsAsked : Option Refusal → Type 0
  IsAsked none = Unit
  IsAsked (some r) = IsNumbered bytes r

  nothing : IsAsked none
  unfolding IsAsked
  nothing = tt

  asked : (c : Bool) (q a b : ℕ) → 1 ≤ q → q < 20 → a < 256 → (bytes → b < 65536) → IsAsked (ask c q a b)
  unfolding IsAsked ask
  asked true q a b h e g f = tt
  asked false q a b h e g f = record { number = h; most = omega arith; unwritten = λ x. omega arith; a = g; b = f }

  next_asked : (p q : Option Refusal) → IsAsked p → IsAsked q → IsAsked (p next q)
  unfolding IsAsked
  next_asked none q x y = y
  next_asked (some r) q x y = x

  cond_asked : (c : Bool) (p q : Option Refusal) → IsAsked p → IsAsked q → IsAsked (cond c p q)
  cond_asked true p q x y = x
  cond_asked false p q x y = y

  each_asked : (n : ℕ) (f : ℕ → Option Refusal) → ((v : ℕ) → v < n → IsAsked (f v)) → IsAsked (each n f)
  unfolding each_from
  each_asked n f h = from 0 n (omega arith)
    where
      from : (i k : ℕ) → i + k ≤ n → IsAsked (each_from i k f)
      from i zero l = nothing
      from i (suc k) l = next_asked (f i) (each_from (i + 1) k f) (h i (omega arith)) (from (i + 1) k (omega arith))

  module _ (j : Job) (f : Flow) (few : j.nodes ≤ most_nodes) (small : bytes → (u : ℕ) → u < j.nodes → f.layer u < 65536) where
    every : (ask : ℕ → Option Refusal) → ((v : ℕ) → v < j.nodes → IsAsked (ask v)) → IsAsked (each j.nodes ask)
    every = each_asked j.nodes

    -- a question on two nodes
    two : (c : Bool) (q i k : ℕ) → 1 ≤ q → q < 20 → i < j.nodes → k < j.nodes → IsAsked (ask c q i k)
    two c q i k h e l m = asked c q i k h e (omega arith) (λ x. omega arith)

    -- a question on one
    one : (c : Bool) (q i : ℕ) → 1 ≤ q → q < 20 → i < j.nodes → IsAsked (ask c q i 0)
    one c q i h e l = asked c q i 0 h e (omega arith) (λ x. omega arith)

    domain_asked : IsAsked (Q.check_domain j f)
    domain_asked =
        next_asked _ _ (every (λ u. each j.nodes (Q.input_ask j f u)) (λ u l. every (Q.input_ask j f u) (λ k m. one _ 13 u (omega arith) (omega arith) l)))
        (every (Q.domain_ask j f) (λ u l. one _ 14 u (omega arith) (omega arith) l))

    initial_asked : (mode : ℕ) → IsAsked (Q.check_initial j f mode)
    initial_asked mode =
        every (Q.layer_ask j f mode)
        (λ u l. cond_asked (j.output u) _ _ (asked _ 15 u (f.layer u) (omega arith) (omega arith) (omega arith) (λ x. small x u l)) (one _ 16 u (omega arith) (omega arith) l))

    causal_asked : (i : ℕ) → i < j.nodes → IsAsked (Q.causal_node_ask j f i)
    unfolding Q.causal_ask
    causal_asked i l =
        every (λ k. cond (f.set i k) (Q.causal_ask j f i k) none) (λ k m. cond_asked (f.set i k) (Q.causal_ask j f i k) none
        (next_asked _ _ (two _ 18 i k (omega arith) (omega arith) l m)
        (next_asked _ _ (every (Q.neighbour_ask j f i k) (λ v h. two _ 18 i v (omega arith) (omega arith) l h)) (two _ 18 i k (omega arith) (omega arith) l m))) nothing)

    node_asked : (mode i : ℕ) → i < j.nodes → IsAsked (Q.node_ask j f mode i)
    unfolding Q.node_ask
    node_asked mode i l =
        next_asked _ _ (every (Q.member_ask j f mode i) (λ k m. two _ 18 i k (omega arith) (omega arith) l m))
        (next_asked _ _ (every (Q.odd_ask j f mode i) (λ k m. two _ 18 i k (omega arith) (omega arith) l m))
        (next_asked _ _ (every (Q.y_ask j f mode i) (λ k m. one _ 19 i (omega arith) (omega arith) l)) (one _ 19 i (omega arith) (omega arith) l)))

    definition_asked : (mode : ℕ) → IsAsked (Q.check_definition j f mode)
    definition_asked mode =
        next_asked _ _ (every (Q.measured_ask j f) (λ u l. one _ 17 u (omega arith) (omega arith) l))
        (every (Q.definition_ask j f mode) (λ i l. cond_asked (j.output i) none _ nothing (cond_asked (eqb mode mode_causal) _ _ (causal_asked i l) (node_asked mode i l))))

    verify_asked : (mode : ℕ) → IsAsked (Q.verify j f mode)
    unfolding Q.verify
    verify_asked mode = next_asked _ _ domain_asked (next_asked _ _ (initial_asked mode) (definition_asked mode))

  verdict_numbered : (o : Option Refusal) → IsAsked o → AllNumbered (verdict o)
  unfolding AllNumbered IsAsked
  verdict_numbered none t = tt
  verdict_numbered (some r) t = t

-- the layers that were read of bytes fit two
layer_small : (file : List ℕ) (f : JobFile) (g : FlowFile) → read_job file ≡ gives f → read_flow f.n f.after ≡ gives g → IsBytes file → (u : ℕ) → u < f.n → (flow_of g).layer u < 65536
layer_small file f g e h b u l =
    below_at 65536 g.layers u (flow-layers f.n f.after g (job_asked file f e).few (job-after file f b e) h) (omega (arith, (flow_asked f.n f.after g (job_asked file f e).few h).count))

-- ---- both files, and what is asked of them
pub both_numbered : (bytes : Type 0) (file : List ℕ) → AllNumbered bytes (read_both file)
unfolding read_both
both_numbered bytes file =
    bind_numbered bytes (read_job file) _ (job_numbered bytes file)
    (λ f e. bind_numbered bytes (read_flow f.n f.after) _ (flow_numbered bytes f.n f.after (job_asked file f e).few)
    (λ g h. asks-then bytes 8 (eqb (length g.after) 0) _ (omega arith) (omega arith)
    (asks-then bytes 9 (not (eqb f.mode mode_causal) || all_entries (λ e. eqb (length e.set) 1) g.sets) _ (omega arith) (omega arith)
    (given bytes _))))

pub read_angles_numbered : (bytes : Type 0) (file : List ℕ) → AllNumbered bytes (read_angles_asks owner file)
unfolding read_angles_asks
read_angles_numbered bytes file =
    bind_numbered bytes (read_job file) _ (job_numbered bytes file)
    (λ f e. asks-then bytes 1 (is_some f.angles) _ (omega arith) (omega arith) (asks-then bytes 8 (eqb (length f.after) 0) _ (omega arith) (omega arith) (given bytes f)))

pub edit_numbered : (bytes : Type 0) (file entry : List ℕ) → AllNumbered bytes (edit_asks file entry)
unfolding edit_asks entry_asks
edit_numbered bytes file entry =
    bind_numbered bytes (read_both file) _ (both_numbered bytes file)
    (λ b e. then_numbered bytes (entry_asks b.job.n entry) _
    (asks-then bytes 3 (eqb (length entry) (2 + get_or entry 1 0)) _ (omega arith) (omega arith)
    (asks-then bytes 5 (entry_below b.job.n (entry_of entry)) _ (omega arith) (omega arith) (asks_last bytes 6 (rises 0 (entry_of entry).set) (omega arith) (omega arith))))
    (asks-then bytes 9 (not (eqb b.job.mode mode_causal) || all_entries (λ e. eqb (length e.set) 1) (entry_of entry ∷ [])) _ (omega arith) (omega arith) (given bytes b)))

pub verify_numbered : (file : List ℕ) → AllNumbered (IsBytes file) (verify_asks file)
unfolding verify_asks judge
verify_numbered file =
    bind_numbered (IsBytes file) (read_both file) _ (both_numbered (IsBytes file) file)
    (λ b e. let r = both_out file b e in
    then_numbered (IsBytes file) (verdict (Q.verify (job_of b.job) (flow_of b.flow) (mode_of b.job))) _
    (verdict_numbered (IsBytes file) _ (verify_asked (IsBytes file) (job_of b.job) (flow_of b.flow) (job_asked file b.job r.reads_job).few (λ y. layer_small file b.job b.flow r.reads_job r.reads_flow y) (mode_of b.job)))
    (signals_numbered (IsBytes file) (lists_match b.job b.flow)))
