use mathlib.Core.Path.{◌≡◌, ap, ◌∙◌, fun_ext}
use mathlib.Core.Bool.{Bool, ◌&&◌}
use Prim.Native.Nat.{ℕ}
use Rattle.nodes.specs.Row.{parity}
use Rattle.nodes.specs.NodeSet.{member, capacity, words_of}
use Rattle.nodes.specs.SetTable.{set_at}
use Rattle.nodes.proofs.NodeSet.{member_past}
use Rattle.calls.specs.Loaded.{within}
use Rattle.calls.proofs.AskingNodes.{parity-within}
use Rattle.calls.proofs.job.Job.odd_of.Goals as goal

pub returns : goal.returns
returns c = let m = c.intersection in
    let w = c.below in
    let a = c.args in
    let e : member m.result ≡ (λ k. member a.set k && within a.self.now.n k) = m.ensures ∙ fun_ext (λ k. ap (λ (f : ℕ → Bool). member a.set k && f k) w.ensures) in
    c.odd_neighbors.ensures
    ∙ fun_ext (λ v. ap (λ (f : ℕ → Bool). parity capacity (λ k. set_at a.self.now.graph.now k v && f k)) e
    ∙ parity-within a.self.now.n (λ k. set_at a.self.now.graph.now k v) (member a.set) (λ k l. member_past (words_of a.set) k l))
