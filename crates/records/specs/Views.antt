-- What the code's answers hold: the code answers parts of the file, the definitions speak of bytes.
use Rattle.std.specs.Prelude.{ℕ, ◌≡◌, Bool, true, false, cond, List, Option as Lent, Some, None, [], ◌∷◌, ◌++◌}
use Rattle.std.specs.Borrow.{Bor}
use Rattle.std.proofs.Math.Option.{Option, none, some}
use Rattle.nodes.specs.Row.{count}
use Rattle.nodes.specs.Lists.{has}
use Rattle.answers.specs.Answer.{Answer, gives, ◌>>=◌}
use Rattle.flows.specs.Numbers.{mode_number}
use Rattle.records.specs.Records.{carries, Part, checked, written, kind_layers, kind_wide_layers, kind_sets, kind_set_signals, kind_odd_signals}
use Rattle.records.specs.Format.{Front, front}
use Rattle.records.specs.JobFile.{JobFile, nodes_below}
use Rattle.records.specs.JobLists.{JobLists, given}
use Rattle.records.specs.FlowFile.{FlowFile, Signals, SetEntry, layer_numbers, entries_of, listed, entry_bytes}
use Rattle.records.specs.SignalLists.{put_entry}
use Rattle.records.specs.declared.part.Part as Code
use Rattle.records.specs.declared.job_file.JobFile as JobRead
use Rattle.records.specs.declared.flow_file.FlowFile as FlowRead
use Rattle.records.specs.declared.flow_file.Signals as Lists
use Rattle.records.specs.declared.entries.Entry as EntryRead
use Rattle.records.specs.declared.lists.JobLists as ListsGiven

-- ---- one record
abbrev pub part_of : Code.Part → Part
part_of p = record { payload = p.payload.now; rest = p.rest.now }

-- ---- a record that may be there, where it has a place
abbrev pub option_of : Lent (Bor (List ℕ)) → Option (List ℕ)
option_of None = none
option_of (Some b) = some b.now

abbrev pub optional_of : Lent (Bor (List ℕ)) × Bor (List ℕ) → Front (Option (List ℕ))
optional_of p = front (option_of p.0) p.1.now

-- ---- a record of one of two kinds: whether it is the second, and what is read
abbrev pub either_of : Bool × Code.Part → Bool × Part
either_of p = (p.0, part_of p.1)

abbrev pub marked : Bool → Part → Answer (Bool × Part)
marked second p = gives (second, p)

abbrev pub either_asks : ℕ → (List ℕ → Answer Bool) → ℕ → (List ℕ → Answer Bool) → List ℕ → Answer (Bool × Part)
either_asks first questions second others s = cond (carries second s) (checked second others s >>= marked true) (checked first questions s >>= marked false)

-- ---- the outputs are nodes below n, so many of them
abbrev pub IsOutputs : (n : ℕ) (outputs : List ℕ) (k : ℕ) → Type 0
IsOutputs n outputs k = (nodes_below n outputs ≡ true) × (count n (has outputs) ≡ k)

-- ---- an entry of a sets record
abbrev pub entry_held : EntryRead.Entry → SetEntry
entry_held e = record { node = e.node; set = e.members.now }

-- ---- what a file holds
abbrev pub job_held : JobRead.JobFile → JobFile
job_held f = record {
  n = f.n;
  mode = mode_number f.mode;
  edges = f.edges.now;
  inputs = f.inputs.now;
  outputs = f.outputs.now;
  measurements = f.measurements.now;
  angles = option_of f.angles;
  after = f.after.now;
}

abbrev pub lists_held : Lent Lists.Signals → Option Signals
lists_held None = none
lists_held (Some l) = some (l.rows.now, l.odds.now)

-- the records of both lists, where they are there
abbrev pub lists_written : Lent Lists.Signals → List ℕ
lists_written None = []
lists_written (Some l) = written kind_set_signals l.rows.now ++ written kind_odd_signals l.odds.now

abbrev pub signals_of : Lent Lists.Signals × Bor (List ℕ) → Front (Option Signals)
signals_of p = front (lists_held p.0) p.1.now

abbrev pub flow_held : FlowRead.FlowFile → FlowFile
flow_held f = record {
  wide = f.wide;
  layers = layer_numbers f.wide f.layers.now;
  sets = listed (entries_of f.sets.now);
  signals = lists_held f.signals;
  after = f.after.now;
}

-- the records of what was read, in order, and the bytes behind them
abbrev pub IsLaidOut : List ℕ → FlowRead.FlowFile → Type 0
IsLaidOut s f = s ≡ written (cond f.wide kind_wide_layers kind_layers) f.layers.now ++ (written kind_sets f.sets.now ++ (lists_written f.signals ++ f.after.now))

-- ---- an editor's lists
abbrev pub given_held : ListsGiven.JobLists → JobLists
given_held l = given l.n l.mode l.edges.now l.inputs.now l.outputs.now l.measurements.now (option_of l.angles)

-- ---- what is written
abbrev pub some_if : Bool → List ℕ → Option (List ℕ)
some_if true p = some p
some_if false p = none

abbrev pub pair_if : Bool → List ℕ → List ℕ → Option (List ℕ × List ℕ)
pair_if true p q = some (p, q)
pair_if false p q = none

-- ---- the gap that an edit of node u fills: the bytes before the entry, and those behind it
abbrev pub IsAround : (sets : List ℕ) (u : ℕ) (before behind : List ℕ) → Type 0
IsAround sets u before behind = (e : SetEntry) → e.node ≡ u → entry_bytes (put_entry e (listed (entries_of sets))) ≡ before ++ (entry_bytes (e ∷ []) ++ behind)
