use Prim.Native.Nat.{◌≤◌, ◌<◌}
use native.Mathlib.Omega.{arith}
use borrow.Author.Tests.{le-leb, lt-leb}
use Rattle.records.specs.JobFile.{most_nodes, mode_causal}
use Rattle.records.proofs.questions.opening_allowed.Goals as goal

pub returns-then-n-gt-MOST_NODES : goal.returns-then-n-gt-MOST_NODES
returns-then-n-gt-MOST_NODES c = simp (lt-leb _ most_nodes c.if-n-gt-MOST_NODES.true)

pub returns-then-mode-from : goal.returns-then-mode-from
returns-then-mode-from c =
    let low : c.args.mode < mode_causal = omega (arith, c.from.ensures) in
    simp (le-leb _ most_nodes c.if-n-gt-MOST_NODES.false, lt-leb mode_causal _ low)

pub returns : goal.returns
returns c =
    let high : mode_causal ≤ c.args.mode = omega (arith, c.from.ensures) in
    simp (le-leb _ most_nodes c.if-n-gt-MOST_NODES.false, le-leb mode_causal _ high, c.from-2.ensures)
