-- For the writer: what is left to write from here on makes the whole.
use Prim.Native.Nat.{ℕ, suc, ◌+◌, ◌*◌, ◌/◌, ◌%◌, ◌≤◌, ◌<◌}
use mathlib.Core.Path.{◌≡◌, sym, ap, ap₂, ◌∙◌}
use mathlib.Core.Bool.{Bool}
use mathlib.Core.List.{List, [], ◌∷◌, ◌++◌, append-nil}
use native.Mathlib.Omega.{arith}
use lib.ListN.{length, get_or, take, length-append}
use lib.Seq.{length-take-le, take-suc}
use Rattle.nodes.specs.Row.{count, members}
use Rattle.nodes.specs.NodeSet.{capacity}
use Rattle.nodes.proofs.Count.{count-le}
use Rattle.nodes.proofs.Members.{members-length}
use Rattle.records.specs.Records.{head_bytes, written, kind_wide_layers, kind_sets, in_two_bytes}
use Rattle.records.specs.FlowFile.{SetEntry, entry_bytes}
use Rattle.records.specs.Encoding.{flow_file_bytes, flow_with, entries_for}
use Rattle.records.specs.Writing.{set_bytes}
use Rattle.records.specs.Splice.{splice}
use Rattle.records.proofs.Records.{written-length}
use Rattle.records.proofs.Layers.{in_length, in_append, in_one}
use Rattle.records.proofs.Splice.{splice_none, splice_next, splice-cons, splice-splice}

-- ---- the layers, number by number
pub layers_none : (at : ℕ) (layers l : List ℕ) → splice at (in_two_bytes (take 0 layers)) l ≡ l
unfolding in_two_bytes
layers_none at layers l = splice_none at l

pub layers_more : (at i : ℕ) (layers l m : List ℕ) → i < length layers → get_or layers i 0 < 65536 → at + 2 * length layers ≤ length l → m ≡ splice at (in_two_bytes (take i layers)) l
    → splice (at + 2 * i) (get_or layers i 0 % 256 ∷ get_or layers i 0 / 256 % 256 ∷ []) m ≡ splice at (in_two_bytes (take (i + 1) layers)) l
layers_more at i layers l m h small room e =
    ap (λ (b : List ℕ). splice (at + 2 * i) b m) two
    ∙ splice_next at (at + 2 * i) (in_two_bytes (take i layers)) (in_two_bytes (x ∷ [])) l m (omega (arith, in_length (take i layers), length-take-le i layers (omega arith))) (omega (arith, in_length (x ∷ []))) e
    ∙ ap (λ (b : List ℕ). splice at b l) (sym (in_append (take i layers) (x ∷ [])) ∙ ap in_two_bytes (sym (take-suc layers i 0 h) ∙ ap (λ (k : ℕ). take k layers) next))
  where
    x : ℕ
    x = get_or layers i 0

    two : x % 256 ∷ x / 256 % 256 ∷ [] ≡ in_two_bytes (x ∷ [])
    two = let high : x / 256 % 256 ≡ x / 256 = omega (arith, small) in ap (λ (k : ℕ). x % 256 ∷ k ∷ []) high ∙ sym (in_one x)

    next : suc i ≡ i + 1
    next = omega arith

-- ---- the members of a set, one by one
pub members_next : (p k : ℕ) (items others out next : List ℕ) → items ≡ k ∷ others → p + length items ≤ length out → next ≡ splice p (k ∷ []) out
    → splice (p + 1) others next ≡ splice p items out
members_next p k items others out next e h r = splice-cons p k others out next (omega (arith, ap length e)) r ∙ ap (λ (b : List ℕ). splice p b out) (sym e)

-- ---- the entries of the nodes in a list, of which u is the first
module _ (set : ℕ → ℕ → Bool) (u : ℕ) (items others : List ℕ) (e : items ≡ u ∷ others) where
  entry_split : set_bytes capacity set items ≡ (u ∷ count capacity (set u) ∷ members capacity (set u)) ++ set_bytes capacity set others
  unfolding entry_bytes entries_for
  entry_split =
      ap (set_bytes capacity set) e
      ∙ ap (λ (k : ℕ). u ∷ k ∷ members capacity (set u) ++ set_bytes capacity set others) (members-length capacity (set u))

  pub entry_length : length (set_bytes capacity set items) ≡ 2 + count capacity (set u) + length (set_bytes capacity set others)
  entry_length =
      ap length entry_split ∙ length-append (u ∷ count capacity (set u) ∷ members capacity (set u)) (set_bytes capacity set others)
      ∙ ap (λ (k : ℕ). suc (suc k) + length (set_bytes capacity set others)) (members-length capacity (set u)) ∙ omega arith

  pub entries_step : (p q : ℕ) (out next : List ℕ) → q ≡ p + 2 + count capacity (set u) → p + length (set_bytes capacity set items) ≤ length out
      → next ≡ splice p (u ∷ count capacity (set u) ∷ members capacity (set u)) out → splice q (set_bytes capacity set others) next ≡ splice p (set_bytes capacity set items) out
  entries_step p q out next b h r =
      ap₂ (λ (k : ℕ) (m : List ℕ). splice k (set_bytes capacity set others) m) place r
      ∙ splice-splice p entry (set_bytes capacity set others) out (omega (arith, entry_length, size))
      ∙ ap (λ (l : List ℕ). splice p l out) (sym entry_split)
    where
      entry : List ℕ
      entry = u ∷ count capacity (set u) ∷ members capacity (set u)

      size : length entry ≡ 2 + count capacity (set u)
      size = ap (λ (k : ℕ). suc (suc k)) (members-length capacity (set u)) ∙ two (count capacity (set u))
        where
          two : (k : ℕ) → suc (suc k) ≡ 2 + k
          two k = omega arith

      place : q ≡ p + length entry
      place = omega (arith, b, size)

pub no_entries : (set : ℕ → ℕ → Bool) (items : List ℕ) → items ≡ [] → set_bytes capacity set items ≡ []
unfolding entry_bytes entries_for
no_entries set items e = ap (set_bytes capacity set) e

-- a table of sets has room for no more
pub entries_most : (set : ℕ → ℕ → Bool) (s : ℕ → Bool) → length (set_bytes capacity set (members capacity s)) ≤ capacity * (capacity + 2)
unfolding entry_bytes entries_for
entries_most set s = omega (arith, each (members capacity s), members-length capacity s, count-le capacity s)
  where
    each : (us : List ℕ) → length (set_bytes capacity set us) ≤ length us * (capacity + 2)
    each [] = omega arith
    each (u ∷ us) =
        omega (arith, length-append (members capacity (set u)) (set_bytes capacity set us), members-length capacity (set u), count-le capacity (set u), each us)

-- ---- records
-- the two records of a flow file
pub two_records : (layers : List ℕ) (es : List SetEntry) → flow_file_bytes (flow_with layers es) ≡ written kind_wide_layers (in_two_bytes layers) ++ written kind_sets (entry_bytes es)
two_records layers es = ap (λ (x : List ℕ). written kind_wide_layers (in_two_bytes layers) ++ x) (append-nil (written kind_sets (entry_bytes es)))

layers-length : (layers : List ℕ) → length (written kind_wide_layers (in_two_bytes layers)) ≡ head_bytes + 2 * length layers
layers-length layers = omega (arith, written-length kind_wide_layers (in_two_bytes layers), in_length layers)

pub flow_length : (layers : List ℕ) (es : List SetEntry) → length (flow_file_bytes (flow_with layers es)) ≡ 2 * head_bytes + 2 * length layers + length (entry_bytes es)
flow_length layers es =
    omega (arith, ap length (two_records layers es), length-append (written kind_wide_layers (in_two_bytes layers)) (written kind_sets (entry_bytes es)), layers-length layers, written-length kind_sets (entry_bytes es))

-- as many bytes as the set has members
pub count_length : (s : ℕ → Bool) → length (members capacity s) ≡ count capacity s
count_length s = members-length capacity s
