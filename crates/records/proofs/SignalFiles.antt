-- Flow files with signal lists and with an edited set: they are valid, how long they are, and which of their parts are those of the file that was read.
use Prim.Native.Nat.{ℕ, ◌+◌, ◌*◌, ◌≤◌, zero-le}
use mathlib.Core.Path.{◌≡◌, refl, sym, ap, ap₂, ◌∙◌}
use mathlib.Core.Bool.{Bool, true, false, cond}
use mathlib.Core.Option.{Option, none, some}
use mathlib.Core.List.{List, ◌++◌, append_assoc}
use native.Mathlib.Omega.{arith}
use native.Mathlib.Nat.{mul-le-mul}
use lib.Dec.{ltb}
use lib.ListN.{length, length-append, take}
use Rattle.std.proofs.Math.Seq.{take-append_seam}
use Rattle.nodes.specs.Lists.{all}
use Rattle.flows.specs.Job.{Job}
use Rattle.answers.specs.Answer.{gives}
use Rattle.records.specs.Records.{head_bytes, all_yes, each_asks, written, kind_layers, kind_wide_layers, kind_sets, kind_set_signals, kind_odd_signals}
use Rattle.records.specs.Format.{optional}
use Rattle.records.specs.JobFile.{most_nodes, rises}
use Rattle.records.specs.FlowFile.{SetEntry, FlowFile, Signals, layer_width, layer_bytes, layer_numbers, layers, signals, sets_asks, entry_below, entry_bytes, flow, flow_value, read_flow}
use Rattle.records.specs.BitRows.{row_width}
use Rattle.records.specs.SignalLists.{with_signals, edited_signals, edited}
use Rattle.records.specs.Encoding.{IsBytes, flow_file_bytes, ListsFit, IsValidFlow}
use Rattle.records.specs.Writing.{signal_bytes, most_flow}
use Rattle.records.proofs.Records.{all_left, all_right, length_out, written-length}
use Rattle.records.specs.Views.{flow_held, lists_written, IsLaidOut}
use Rattle.records.specs.declared.flow_file.FlowFile as Code
use Rattle.records.proofs.Layers.{bytes-length, bytes_back}
use Rattle.records.proofs.FlowFile.{entries_encode, sets_out, entries_few, entry_bytes-length}
use Rattle.records.proofs.BitRows.{bit_rows-length, column-length}
use Rattle.records.proofs.SignalLists.{put_each, put_rise}
use Rattle.records.proofs.Encoding.{flow_exact, flow_asked}

pub signals_length : (r o : List ℕ) → length (signal_bytes (some (r, o))) ≡ 2 * head_bytes + length r + length o
signals_length r o = omega (arith, length-append (written kind_set_signals r) (written kind_odd_signals o), written-length kind_set_signals r, written-length kind_odd_signals o)

-- ---- a flow file: the records of layers and of sets, and the lists
abbrev pub layers_record : FlowFile → List ℕ
layers_record g = (layers (length g.layers)).encode (record { wide = g.wide; numbers = g.layers })

abbrev pub two_records : FlowFile → List ℕ
two_records g = layers_record g ++ written kind_sets (entry_bytes g.sets)

pub file_records : (g : FlowFile) → flow_file_bytes g ≡ two_records g ++ signal_bytes g.signals
file_records g = ap (λ (x : List ℕ). layers_record g ++ (written kind_sets (entry_bytes g.sets) ++ x)) (by g.signals) ∙ sym (append_assoc (layers_record g) (written kind_sets (entry_bytes g.sets)) (signal_bytes g.signals))
  where
    by : (o : Option Signals) → (optional kind_set_signals (signals (length g.layers))).encode o ≡ signal_bytes o
    by none = refl
    by (some l) = refl

-- the layers' record is one of the two kinds
layers-written : (g : FlowFile) → (kind : ℕ) × (layers_record g ≡ written kind (layer_bytes g.wide g.layers))
layers-written g = by g.wide
  where
    by : (wide : Bool) → (kind : ℕ) × ((layers (length g.layers)).encode (record { wide = wide; numbers = g.layers }) ≡ written kind (layer_bytes wide g.layers))
    by true = (kind_wide_layers, refl)
    by false = (kind_layers, refl)

-- of bytes the lists are bytes
pub flow_lists : (n : ℕ) (s : List ℕ) (g : FlowFile) → n ≤ most_nodes → IsBytes s → read_flow n s ≡ gives g → IsBytes (signal_bytes g.signals)
flow_lists n s g few h e =
    let whole : s ≡ flow_file_bytes g ++ g.after = ((flow_exact n s g few h).0 e).0 ∙ ap (λ (k : ℕ). (flow k).encode (flow_value g) ++ g.after) (sym (flow_asked n s g few e).count) in
    all_right (λ b. ltb b 256) (two_records g) (signal_bytes g.signals) (sym (ap (all (λ b. ltb b 256)) (file_records g)) ∙ all_left (λ b. ltb b 256) (flow_file_bytes g) g.after (sym (ap (all (λ b. ltb b 256)) whole) ∙ h))

-- ---- with lists, and edited, a flow is valid
module _ (j : Job) (g : FlowFile) (v : IsValidFlow j.nodes g) where
  pub added_valid : IsValidFlow j.nodes (with_signals j g)
  added_valid = record { count = v.count; below = v.below; rise = v.rise; lists = (bit_rows-length j.nodes _, bit_rows-length j.nodes _) }

  pub edited_valid : (e : SetEntry) → entry_below j.nodes e ≡ true → rises 0 e.set ≡ true → IsValidFlow j.nodes (edited j e g)
  edited_valid e h r = record { count = v.count; below = put_each e (entry_below j.nodes) g.sets h v.below; rise = put_rise e 0 g.sets zero-le r v.rise; lists = by g.signals }
    where
      by : (o : Option Signals) → ListsFit j.nodes (edited_signals j e o)
      by none = tt
      by (some l) = (column-length j.nodes e.node _ l.0, column-length j.nodes e.node _ l.1)

-- ---- lengths
module _ (n : ℕ) (g : FlowFile) (few : n ≤ most_nodes) (v : IsValidFlow n g) where
  layers-length : length (layer_bytes g.wide g.layers) ≤ 2 * n
  layers-length = omega (arith, bytes-length g.wide g.layers, by g.wide g.layers, v.count)
    where
      by : (wide : Bool) (l : List ℕ) → layer_width wide * length l ≤ 2 * length l
      by true l = omega arith
      by false l = omega arith

  sets-length : length (entry_bytes g.sets) ≤ most_nodes * (most_nodes + 2)
  sets-length =
      let some : length g.sets + 0 ≤ n = entries_few 0 n g.sets zero-le v.below v.rise in
      let long : length (entry_bytes g.sets) ≤ length g.sets * (n + 2) = entry_bytes-length 0 n g.sets v.below v.rise in
      omega (arith, long, mul-le-mul {n₁ = length g.sets} {m₁ = n + 2} {n₂ = most_nodes} {m₂ = most_nodes + 2} (omega arith) (omega arith))

  lists_length : length (signal_bytes g.signals) ≤ 2 * (head_bytes + row_width most_nodes * most_nodes)
  lists_length = by g.signals v.lists
    where
      by : (o : Option Signals) → ListsFit n o → length (signal_bytes o) ≤ 2 * (head_bytes + row_width most_nodes * most_nodes)
      by none h = omega arith
      by (some l) (a, b) = omega (arith, signals_length l.0 l.1, a, b, mul-le-mul {n₁ = row_width n} {m₁ = n} {n₂ = row_width most_nodes} {m₂ = most_nodes} (omega arith) few)

  pub flow_most : length (flow_file_bytes g) ≤ most_flow
  flow_most =
      let (kind, e) = layers-written g in
      omega (arith, ap length (file_records g), length-append (two_records g) (signal_bytes g.signals), length-append (layers_record g) (written kind_sets (entry_bytes g.sets)), ap length e, written-length kind (layer_bytes g.wide g.layers), written-length kind_sets (entry_bytes g.sets), layers-length, sets-length, lists_length)

-- ---- the parts of a flow that was read are its records, as they stand in the file
abbrev pub layer_kind : Bool → ℕ
layer_kind wide = cond wide kind_wide_layers kind_layers

module _ (n : ℕ) (f : Code.FlowFile) (bytes : IsBytes f.layers.now) (asked : all_yes (each_asks (layer_width f.wide) n f.layers.now) ≡ true) (framed : all_yes (sets_asks n f.sets.now) ≡ true) where
  pub layers_kept : written (layer_kind f.wide) f.layers.now ≡ layers_record (flow_held f)
  layers_kept = by f.wide f.layers.now bytes (length_out (layer_width f.wide) n f.layers.now asked)
    where
      by : (wide : Bool) (p : List ℕ) → IsBytes p → length p ≡ layer_width wide * n → written (layer_kind wide) p ≡ (layers (length (layer_numbers wide p))).encode (record { wide = wide; numbers = layer_numbers wide p })
      by true p h e = ap (written kind_wide_layers) (sym (bytes_back true n p h e))
      by false p h e = refl

  pub sets_kept : f.sets.now ≡ entry_bytes (flow_held f).sets
  sets_kept = entries_encode f.sets.now (flow_held f).sets (sets_out n f.sets.now framed).0

  pub records_kept : written (layer_kind f.wide) f.layers.now ++ written kind_sets f.sets.now ≡ two_records (flow_held f)
  records_kept = ap₂ ◌++◌ layers_kept (ap (written kind_sets) sets_kept)

  -- of the file itself: its front up to the end of the layers, and up to that of the sets, is those records
  pub layers_front : (s : List ℕ) → IsLaidOut s f → take (head_bytes + length f.layers.now) s ≡ layers_record (flow_held f)
  layers_front s e =
      let k : ℕ = layer_kind f.wide in
      ap (take (head_bytes + length f.layers.now)) e
      ∙ ap (λ (i : ℕ). take i (written k f.layers.now ++ (written kind_sets f.sets.now ++ (lists_written f.signals ++ f.after.now)))) (sym (written-length k f.layers.now))
      ∙ take-append_seam (written k f.layers.now) (written kind_sets f.sets.now ++ (lists_written f.signals ++ f.after.now))
      ∙ layers_kept

  pub records_front : (s : List ℕ) → IsLaidOut s f → take (head_bytes + length f.layers.now + (head_bytes + length f.sets.now)) s ≡ two_records (flow_held f)
  records_front s e =
      let both : List ℕ = written (layer_kind f.wide) f.layers.now ++ written kind_sets f.sets.now in
      let size : length both ≡ head_bytes + length f.layers.now + (head_bytes + length f.sets.now) = length-append (written (layer_kind f.wide) f.layers.now) (written kind_sets f.sets.now) ∙ ap₂ ◌+◌ (written-length (layer_kind f.wide) f.layers.now) (written-length kind_sets f.sets.now) in
      ap (take (head_bytes + length f.layers.now + (head_bytes + length f.sets.now))) (e ∙ sym (append_assoc (written (layer_kind f.wide) f.layers.now) (written kind_sets f.sets.now) (lists_written f.signals ++ f.after.now)))
      ∙ ap (λ (i : ℕ). take i (both ++ (lists_written f.signals ++ f.after.now))) (sym size)
      ∙ take-append_seam both (lists_written f.signals ++ f.after.now)
      ∙ records_kept

  -- so they are the front of what was read
  pub records_first : (s : List ℕ) → n ≤ most_nodes → IsBytes s → read_flow n s ≡ gives (flow_held f)
      → s ≡ (written (layer_kind f.wide) f.layers.now ++ written kind_sets f.sets.now) ++ (signal_bytes (flow_held f).signals ++ f.after.now)
  records_first s few h e =
      let g = flow_held f in
      ((flow_exact n s g few h).0 e).0
      ∙ ap (λ (k : ℕ). (flow k).encode (flow_value g) ++ g.after) (sym (flow_asked n s g few e).count)
      ∙ ap (λ (x : List ℕ). x ++ g.after) (file_records g)
      ∙ append_assoc (two_records g) (signal_bytes g.signals) g.after
      ∙ ap (λ (x : List ℕ). x ++ (signal_bytes g.signals ++ g.after)) (sym records_kept)
