-- Signal lists: for every node j the nodes i whose outcomes flip it. And one node's set edited, with its bits in stored lists.
use Rattle.std.specs.Prelude.{ℕ, Bool, cond, not, ◌&&◌, List, [], ◌∷◌, eqb, ltb}
use Rattle.std.proofs.Math.Option.{Option, none, some}
use Rattle.nodes.specs.Lists.{has}
use Rattle.flows.specs.Job.{Job, odd}
use Rattle.records.specs.FlowFile.{SetEntry, FlowFile, Signals, Flow, flow_of}
use Rattle.records.specs.BitRows.{bit_rows, with_column}

-- node i flips every node of s but itself
abbrev pub flips : (s : ℕ → Bool) → (i j : ℕ) → Bool
flips s i j = not (eqb i j) && s j

-- ---- the lists built afresh
-- row j has bit i where i flips j by its set
abbrev pub signal_list : (n : ℕ) → (set : ℕ → ℕ → Bool) → List ℕ
signal_list n set = bit_rows n (λ j i. flips (set i) i j)

-- 0022 by the sets, 0023 by Odd of the sets
abbrev pub signals_of : Job → Flow → Signals
signals_of j f = (signal_list j.nodes f.set, signal_list j.nodes (λ i. odd j (f.set i)))

-- the flow file with its lists, anew where they stand
abbrev pub with_signals : Job → FlowFile → FlowFile
with_signals j g = record { wide = g.wide; layers = g.layers; sets = g.sets; signals = some (signals_of j (flow_of g)); after = [] }

-- ---- one node's set edited
-- the entry in the place of its node's, or put in at its place
unfoldable pub put_entry : SetEntry → List SetEntry → List SetEntry
put_entry e [] = e ∷ []
put_entry e (x ∷ es) =
    let here = e ∷ cond (eqb x.node e.node) es (x ∷ es) in
    cond (ltb x.node e.node) (x ∷ put_entry e es) here

-- the bits of the entry's node follow its set; all others keep
abbrev pub edited_list : (n : ℕ) → (i : ℕ) → (s : ℕ → Bool) → List ℕ → List ℕ
edited_list n i s l = with_column n i (flips s i) l

abbrev pub edited_signals : Job → SetEntry → Option Signals → Option Signals
edited_signals j e none = none
edited_signals j e (some l) = some (edited_list j.nodes e.node (has e.set) l.0, edited_list j.nodes e.node (odd j (has e.set)) l.1)

abbrev pub edited : Job → SetEntry → FlowFile → FlowFile
edited j e g = record { wide = g.wide; layers = g.layers; sets = put_entry e g.sets; signals = edited_signals j e g.signals; after = [] }
