-- What the finder writes for what its search found, signal lists and angles as they are written, and how long files are at most.
use Rattle.std.specs.Prelude.{ℕ, ◌+◌, ◌-◌, ◌*◌, Bool, true, List, [], ◌++◌}
use Rattle.std.proofs.Math.Option.{Option, none, some}
use Rattle.flows.specs.Job.{Job}
use Rattle.flows.specs.Search.{Progress}
use Rattle.angles.specs.AngleRecord.{angle_bytes}
use Rattle.records.specs.Records.{head_bytes, written, kind_no_flow, kind_set_signals, kind_odd_signals, kind_angles}
use Rattle.records.specs.JobFile.{most_nodes}
use Rattle.records.specs.FlowFile.{layer_width, entry_bytes, Signals}
use Rattle.records.specs.BitRows.{row_width}
use Rattle.records.specs.Encoding.{flow_file_bytes, flow_with, entries_for, found_flow}

-- entries of the nodes in the list
abbrev pub set_bytes : ℕ → (ℕ → ℕ → Bool) → List ℕ → List ℕ
set_bytes n set us = entry_bytes (entries_for n set us)

-- a flow file from the layers of the nodes and the sets of those that have an entry
abbrev pub flow_records : (layers : List ℕ) (n : ℕ) (set : ℕ → ℕ → Bool) (entries : List ℕ) → List ℕ
flow_records layers n set entries = flow_file_bytes (flow_with layers (entries_for n set entries))

-- a flow file with an entry for each node that is no output, or 0013
abbrev pub flow_bytes : Job → Option Progress → List ℕ
flow_bytes j none = written kind_no_flow []
flow_bytes j (some s) = flow_file_bytes (found_flow j s)

-- no file of a flow is longer: the heads of two records, a layer for each node, and entries of node, count and members
abbrev pub most_output : ℕ
most_output = 2 * head_bytes + layer_width true * most_nodes + most_nodes * (most_nodes + 2)

-- both lists, or neither
abbrev pub signal_bytes : Option Signals → List ℕ
signal_bytes none = []
signal_bytes (some l) = written kind_set_signals l.0 ++ written kind_odd_signals l.1

-- no flow file is longer, its signal lists included
abbrev pub most_flow : ℕ
most_flow = most_output + 2 * (head_bytes + row_width most_nodes * most_nodes)

-- the record of angles, where there is one
abbrev pub angle_record : Option (List ℕ) → List ℕ
angle_record none = []
angle_record (some p) = written kind_angles p

-- no job file is longer: the heads of six records, n and mode, an edge for each pair of nodes, a byte for each node in three lists, and its angle
abbrev pub most_job : ℕ
most_job = 6 * head_bytes + 2 + most_nodes * (most_nodes - 1) + 3 * most_nodes + angle_bytes * most_nodes
