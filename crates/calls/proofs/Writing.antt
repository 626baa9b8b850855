-- For write.rt: what is asked of lists that lie in sets and in a table, and what is written of them, is what the definition says.
use Prim.Native.Nat.{ℕ, ◌≤◌}
use mathlib.Core.Path.{◌≡◌, sym, ap, ap₂, ◌∙◌, fun_ext}
use mathlib.Core.Bool.{Bool, true, false, ◌&&◌}
use mathlib.Core.List.{List, []}
use native.Mathlib.Omega.{arith}
use borrow.Author.Tests.{lt-ltb, le-ltb, le-leb, eq-eqb, ne_eqb}
use lib.Dec.{eqb, ltb, leb}
use lib.ListN.{length}
use Rattle.nodes.specs.Row.{count, members}
use Rattle.nodes.specs.NodeSet.{highest, capacity}
use Rattle.nodes.specs.Lists.{has}
use Rattle.nodes.proofs.Members.{members_ext, members_past}
use Rattle.answers.specs.Answer.{gives, refuses, refusal}
use Rattle.records.specs.JobFile.{nodes_below, has_edge}
use Rattle.records.specs.Encoding.{job_bytes}
use Rattle.records.specs.JobLists.{JobLists, once, edges_once, lists_ask, given_once, pairs_among, job_with}
use Rattle.records.proofs.NodeLists.{once-count}
use Rattle.records.proofs.PairLists.{edges_count}
use Rattle.records.proofs.JobLists.{lists_asked}
use Rattle.records.proofs.WritingJobs.{set_members, set_count}
use Rattle.demands.specs.Calls.{owner, Outcome, put, written_job, write_job_asks, write_job_call}

-- ---- the call, by what is answered
module _ (l : JobLists) (out : List ℕ) where
  pub write_twice : lists_ask l ≡ gives true → given_once l ≡ false → ◌≡◌ {A = Outcome} (record { answer = refuses (refusal 21); work = []; out = out }) (write_job_call owner l out)
  unfolding write_job_asks write_job_call
  write_twice e f = rw (e, f)

  pub write_goes : lists_ask l ≡ gives true → given_once l ≡ true → put [] (written_job l) out ≡ write_job_call owner l out
  unfolding write_job_asks write_job_call
  write_goes e f = rw (e, f)

-- ---- the lists as the code holds them: a set s of all nodes, a table g of the edges, sets of inputs and outputs
module _ (l : JobLists) (e : lists_ask l ≡ gives true) where
  few : l.n ≤ capacity
  few = (lists_asked l e).few

  -- a list of nodes has as many members as bytes just where no node stands twice
  module _ (k : List ℕ) (below : nodes_below l.n k ≡ true) (s : ℕ → Bool) (same : s ≡ (λ u. has k u && leb u highest)) where
    counted : count capacity s ≡ count l.n (has k)
    counted = ap (count capacity) same ∙ set_count l.n k few below

    pub nodes_once : count capacity s ≡ length k → once k ≡ true
    nodes_once h = sym (once-count l.n k below) ∙ eq-eqb (count l.n (has k)) (length k) (sym counted ∙ h)

    pub nodes_twice : (count capacity s ≡ length k → ⊥) → once k ≡ false
    nodes_twice h = sym (once-count l.n k below) ∙ ne_eqb (count l.n (has k)) (length k) (λ z. h (counted ∙ z))

    pub nodes_listed : members capacity s ≡ members l.n (has k)
    nodes_listed = ap (members capacity) same ∙ set_members l.n k few below

  module _ (s : ℕ → Bool) (all : s ≡ (λ u. ltb u l.n && leb u highest)) (g : ℕ → ℕ → Bool) (same : (u v : ℕ) → g u v ≡ has_edge l.edges u v) where
    nodes : members capacity s ≡ members l.n (λ u. true)
    nodes =
        ap (members capacity) all ∙ members_past l.n capacity (λ u. ltb u l.n && leb u highest) few (λ u h. rw (le-ltb u l.n h))
        ∙ members_ext l.n (λ u. ltb u l.n && leb u highest) (λ u. true) (λ u h. rw (lt-ltb u l.n h, le-leb u highest (omega (arith, few))))

    pub edges_listed : pairs_among g (members capacity s) ≡ pairs_among (has_edge l.edges) (members l.n (λ u. true))
    edges_listed = ap₂ pairs_among (fun_ext (λ u. fun_ext (same u))) nodes

    -- the graph has as many edges as the list just where there is no loop and no edge twice
    counting : eqb (length (pairs_among g (members capacity s))) (length l.edges) ≡ edges_once l.edges
    counting =
        let a = lists_asked l e in
        ap (λ (p : List ℕ). eqb (length p) (length l.edges)) edges_listed ∙ edges_count l.n l.edges (omega (arith, few)) a.pairs a.edges_below

    pub edges_once_lem : length (pairs_among g (members capacity s)) ≡ length l.edges → edges_once l.edges ≡ true
    edges_once_lem h = sym counting ∙ eq-eqb (length (pairs_among g (members capacity s))) (length l.edges) h

    pub edges_twice : (length (pairs_among g (members capacity s)) ≡ length l.edges → ⊥) → edges_once l.edges ≡ false
    edges_twice h = sym counting ∙ ne_eqb (length (pairs_among g (members capacity s))) (length l.edges) h

  -- the file of all of it
  pub lists_written : (edges inputs outputs : List ℕ) → edges ≡ pairs_among (has_edge l.edges) (members l.n (λ u. true)) → inputs ≡ members l.n (has l.inputs) → outputs ≡ members l.n (has l.outputs)
      → job_bytes (job_with l.n l.mode edges inputs outputs l.measurements l.angles) ≡ written_job l
  lists_written edges inputs outputs p q r = rw (p, q, r)
