use mathlib.Core.Path.{sym, ap, ◌∙◌}
use Prim.Native.Nat.{ℕ, ◌%◌}
use Rattle.nodes.specs.Bit.{is_one}
use Rattle.nodes.specs.NodeSet.{capacity, member}
use Rattle.nodes.proofs.Bit.{nonzero}
use Rattle.nodes.proofs.Count.{parity-count}
use Rattle.solver.proofs.column_basis.is_odd.Goals as goal

pub returns : goal.returns
returns c = nonzero (c.count.result % 2) ∙ ap (λ (k : ℕ). is_one (k % 2)) c.count.ensures ∙ sym (parity-count capacity (member c.args.s))
