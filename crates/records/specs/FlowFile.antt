-- Reading a flow file: the records of layers and of sets, the signal lists where they stand, and the questions 8 and 9 that follow.
use Rattle.std.specs.Prelude.{ℕ, zero, suc, ◌+◌, Bool, true, false, cond, not, ◌&&◌, ◌||◌, List, [], ◌∷◌, ◌++◌, eqb, ltb, leb, length, get_or, take, drop}
use Rattle.std.specs.Bool.{beq}
use Rattle.std.proofs.Math.Option.{Option, none, some}
use Rattle.nodes.specs.Options.{is_some}
use Rattle.answers.specs.Answer.{Answer, gives, asks, ◌>>=◌, ◌>>◌}
use Rattle.records.specs.Format.{Front, Format, PayloadFormat, plain, record_of, ◌then◌, optional, choice}
use Rattle.records.specs.Records.{kind_layers, kind_wide_layers, kind_sets, kind_set_signals, kind_odd_signals, each_asks, in_two_bytes, from_two_bytes}
use Rattle.records.specs.BitRows.{row_width}
use Rattle.nodes.specs.Lists.{has}
use Rattle.records.specs.JobFile.{nodes_below, rises, mode_causal}

-- an entry of a sets record: node, count, members
pub record SetEntry : Type 0 where
  pub node : ℕ
  pub set : List ℕ

abbrev pub add_entry : SetEntry → Option (List SetEntry) → Option (List SetEntry)
add_entry e none = none
add_entry e (some l) = some (e ∷ l)

-- the entries: none where the last one does not end with the record. An entry takes two bytes and more, so there are
-- fewer of them than bytes, and the bound k is never met.
unfoldable pub entries_in : ℕ → List ℕ → Option (List SetEntry)
entries_in zero s = none
entries_in (suc k) [] = some []
entries_in (suc k) (u ∷ []) = none
entries_in (suc k) (u ∷ c ∷ s) =
    let more = add_entry (record { node = u; set = take c s }) (entries_in k (drop c s)) in
    cond (leb c (length s)) more none

abbrev pub entries_of : List ℕ → Option (List SetEntry)
entries_of s = entries_in (suc (length s)) s

abbrev pub listed : Option (List SetEntry) → List SetEntry
listed none = []
listed (some es) = es

unfoldable pub all_entries : (SetEntry → Bool) → List SetEntry → Bool
all_entries p [] = true
all_entries p (e ∷ es) = p e && all_entries p es

-- the nodes and the members below n
unfoldable pub entry_below : ℕ → SetEntry → Bool
entry_below n e = ltb e.node n && nodes_below n e.set

-- nodes strictly ascending from `low` on, and the members of each entry
unfoldable pub entries_rise : ℕ → List SetEntry → Bool
entries_rise low [] = true
entries_rise low (e ∷ es) = leb low e.node && rises 0 e.set && entries_rise (e.node + 1) es

-- ---- the questions of each record
unfoldable pub sets_asks : ℕ → List ℕ → Answer Bool
sets_asks n p = do
  asks 3 (is_some (entries_of p))
  asks 5 (all_entries (entry_below n) (listed (entries_of p)))
  asks 6 (entries_rise 0 (listed (entries_of p)))

-- the signal lists, those of the sets (0022) and those of Odd (0023), as they are stored
abbrev pub Signals : Type 0
Signals = List ℕ × List ℕ

-- whether the layers are of the wide kind, the layers as numbers, the sets, the signal lists where they stand, and the bytes behind them
pub record FlowFile : Type 0 where
  pub wide : Bool
  pub layers : List ℕ
  pub sets : List SetEntry
  pub signals : Option Signals
  pub after : List ℕ

-- ---- the layers of the nodes: of kind 0011 a byte each, of the wide kind 0021 two
-- the numbers, and which kind holds them
pub record Layers : Type 0 where
  pub wide : Bool
  pub numbers : List ℕ

abbrev pub layer_width : Bool → ℕ
layer_width wide = cond wide 2 1

abbrev pub layer_bytes : (wide : Bool) → List ℕ → List ℕ
layer_bytes wide numbers = cond wide (in_two_bytes numbers) numbers

abbrev pub layer_numbers : (wide : Bool) → List ℕ → List ℕ
layer_numbers wide p = cond wide (from_two_bytes p) p

abbrev pub layers_as : (wide : Bool) (n : ℕ) → PayloadFormat Layers
layers_as wide n = record {
  valid = λ l. beq l.wide wide && eqb (length l.numbers) n;
  encode = λ l. layer_bytes wide l.numbers;
  questions = each_asks (layer_width wide) n;
  value = λ p. record { wide = wide; numbers = layer_numbers wide p };
}

-- either kind, in one place
abbrev pub layers : ℕ → Format Layers
layers n = choice (λ l. l.wide) (record_of kind_layers (layers_as false n)) kind_wide_layers (record_of kind_wide_layers (layers_as true n))

-- ---- a flow: the records of layers and of sets, and both signal lists or neither
-- node, count and members of each entry
unfoldable pub entry_bytes : List SetEntry → List ℕ
entry_bytes [] = []
entry_bytes (e ∷ es) = e.node ∷ length e.set ∷ e.set ++ entry_bytes es

abbrev pub sets : ℕ → PayloadFormat (List SetEntry)
sets n = record {
  valid = λ es. all_entries (entry_below n) es && entries_rise 0 es;
  encode = entry_bytes;
  questions = sets_asks n;
  value = λ p. listed (entries_of p);
}

-- one list: n rows of n bits; of its bits nothing is asked
abbrev pub signal_rows : ℕ → PayloadFormat (List ℕ)
signal_rows n = plain (each_asks (row_width n) n)

abbrev pub signals : ℕ → Format Signals
signals n =
    record_of kind_set_signals (signal_rows n) then λ s.
    record_of kind_odd_signals (signal_rows n)

abbrev pub FlowValue : Type 0
FlowValue = Layers × (List SetEntry × Option Signals)

abbrev pub flow : ℕ → Format FlowValue
flow n =
    layers n then λ l.
    record_of kind_sets (sets n) then λ e.
    optional kind_set_signals (signals n)

abbrev pub flow_file : Front FlowValue → FlowFile
flow_file p = record { wide = p.value.0.wide; layers = p.value.0.numbers; sets = p.value.1.0; signals = p.value.1.1; after = p.rest }

abbrev pub flow_value : FlowFile → FlowValue
flow_value g = (record { wide = g.wide; numbers = g.layers }, (g.sets, g.signals))

unfoldable pub read_flow : ℕ → List ℕ → Answer FlowFile
read_flow n s = (flow n).decode s >>= λ p. gives (flow_file p)

-- ---- an entry that is lent alone, as it stands in a sets record
abbrev pub entry_of : List ℕ → SetEntry
entry_of p = record { node = get_or p 0 0; set = drop 2 p }

-- is it one entry, neither cut nor too long (3)? are its node and members below n (5)? do its members ascend (6)?
unfoldable pub entry_asks : ℕ → List ℕ → Answer Bool
entry_asks n p = do
  asks 3 (eqb (length p) (2 + get_or p 1 0))
  asks 5 (entry_below n (entry_of p))
  asks 6 (rises 0 (entry_of p).set)

-- ---- the questions that follow
-- is nothing left (8)?
abbrev pub nothing_left : List ℕ → Answer Bool
nothing_left rest = asks 8 (eqb (length rest) 0)

-- has each causal entry one member (9)?
abbrev pub one_member : ℕ → List SetEntry → Answer Bool
one_member mode es = asks 9 (not (eqb mode mode_causal) || all_entries (λ e. eqb (length e.set) 1) es)

-- ---- what the file means
unfoldable pub set_in : List SetEntry → ℕ → ℕ → Bool
set_in [] u k = false
set_in (e ∷ es) u k = eqb e.node u && has e.set k || set_in es u k

unfoldable pub entry_in : List SetEntry → ℕ → Bool
entry_in [] u = false
entry_in (e ∷ es) u = eqb e.node u || entry_in es u

-- each node's layer, the nodes that have an entry, and the members of the entries
pub record Flow : Type 0 where
  pub layer : ℕ → ℕ
  pub entry : ℕ → Bool
  pub set : ℕ → ℕ → Bool

abbrev pub flow_of : FlowFile → Flow
flow_of f = record { layer = λ u. get_or f.layers u 0; entry = entry_in f.sets; set = set_in f.sets }
