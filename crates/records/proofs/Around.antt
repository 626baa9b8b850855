-- The gap that an edit fills: the entries of a sets record before that of a node, and those behind it.
use Prim.Native.Nat.{ℕ, ◌-◌, ◌≤◌, ◌<◌}
use mathlib.Core.Path.{◌≡◌, refl, sym, ap, ap₂, ◌∙◌}
use mathlib.Core.Bool.{true, false, false≢true}
use mathlib.Core.Option.{Option, none, some}
use mathlib.Core.List.{List, [], ◌∷◌, ◌++◌, append_assoc, append-nil}
use native.Mathlib.Omega.{arith}
use borrow.Author.Tests.{ne_eqb}
use lib.Dec.{eqb}
use lib.ListN.{length, take, length-append}
use lib.Seq.{take-append_seam}
use Rattle.nodes.specs.Options.{is_some}
use Rattle.records.specs.FlowFile.{SetEntry, add_entry, entries_of, listed, entry_bytes}
use Rattle.records.specs.SignalLists.{put_entry}
use Rattle.records.specs.Views.{IsAround}
use Rattle.records.proofs.FlowFile.{entries_encode, framed_out}
use Rattle.records.proofs.ReadingEntries.{no_entry}
use Rattle.records.proofs.SignalLists.{put_first, put_same, put_before, put_none}

-- one entry more, of what ends with the record
framed_more : (e : SetEntry) (o : Option (List SetEntry)) → is_some (add_entry e o) ≡ is_some o
framed_more e none = refl
framed_more e (some es) = refl

listed_more : (e : SetEntry) (o : Option (List SetEntry)) → is_some o ≡ true → listed (add_entry e o) ≡ e ∷ listed o
listed_more e none f = absurd (false≢true f)
listed_more e (some es) f = refl

-- an entry's bytes, and those of the others
bytes_of : SetEntry → List ℕ
bytes_of e = e.node ∷ length e.set ∷ e.set

bytes_cons : (e : SetEntry) (es : List SetEntry) → entry_bytes (e ∷ es) ≡ bytes_of e ++ entry_bytes es
unfolding entry_bytes bytes_of
bytes_cons e es = refl

bytes_alone : (e : SetEntry) → bytes_of e ≡ entry_bytes (e ∷ [])
unfolding entry_bytes bytes_of
bytes_alone e = ap (λ (l : List ℕ). e.node ∷ length e.set ∷ l) (sym (append-nil e.set))

prefix : (a b s : List ℕ) → s ≡ a ++ b → take (length s - length b) s ≡ a
prefix a b s e =
    let k : length s - length b ≡ length a = omega (arith, ap length e, length-append a b) in
    ap₂ (λ (k : ℕ) (s : List ℕ). take k s) k e ∙ take-append_seam a b

-- the entries before `rest` are of nodes below u, as far as the walk has come
pub record IsUpTo (sets rest : List ℕ) (u : ℕ) : Type 0 where
  pub framed : is_some (entries_of rest) ≡ true
  pub shorter : length rest ≤ length sets
  pub split : sets ≡ take (length sets - length rest) sets ++ rest
  pub put : (e : SetEntry) → e.node ≡ u → entry_bytes (put_entry e (listed (entries_of sets))) ≡ take (length sets - length rest) sets ++ entry_bytes (put_entry e (listed (entries_of rest)))

pub up_to_start : (sets : List ℕ) (u : ℕ) → is_some (entries_of sets) ≡ true → IsUpTo sets sets u
up_to_start sets u f =
    let z : length sets - length sets ≡ 0 = omega arith in
    record { framed = f; shorter = omega arith; split = rw z refl; put = λ e h. rw z refl }

module _ (sets rest behind : List ℕ) (u : ℕ) (x : SetEntry) (w : IsUpTo sets rest u) (m : entries_of rest ≡ add_entry x (entries_of behind)) where
  front : List ℕ
  front = take (length sets - length rest) sets

  framed : is_some (entries_of behind) ≡ true
  framed = sym (ap is_some m ∙ framed_more x (entries_of behind)) ∙ w.framed

  more : listed (entries_of rest) ≡ x ∷ listed (entries_of behind)
  more = ap listed m ∙ listed_more x (entries_of behind) framed

  behind_bytes : behind ≡ entry_bytes (listed (entries_of behind))
  behind_bytes = entries_encode behind (listed (entries_of behind)) (framed_out (entries_of behind) framed)

  rest_bytes : rest ≡ entry_bytes (x ∷ listed (entries_of behind))
  rest_bytes = entries_encode rest (listed (entries_of rest)) (framed_out (entries_of rest) w.framed) ∙ ap entry_bytes more

  rest_split : rest ≡ bytes_of x ++ behind
  rest_split = rest_bytes ∙ bytes_cons x (listed (entries_of behind)) ∙ ap (λ (l : List ℕ). bytes_of x ++ l) (sym behind_bytes)

  whole : sets ≡ (front ++ bytes_of x) ++ behind
  unfolding front
  whole = w.split ∙ ap (λ (l : List ℕ). front ++ l) rest_split ∙ sym (append_assoc front (bytes_of x) behind)

  pub up_to_next : x.node < u → IsUpTo sets behind u
  unfolding front
  up_to_next lt =
      let at = prefix (front ++ bytes_of x) behind sets whole in
      record {
        framed = framed;
        shorter = omega (arith, ap length whole, length-append (front ++ bytes_of x) behind);
        split = whole ∙ ap (λ (l : List ℕ). l ++ behind) (sym at);
        put = λ e h.
            w.put e h
            ∙ ap (λ (l : List ℕ). front ++ l) (ap (λ (es : List SetEntry). entry_bytes (put_entry e es)) more ∙ ap entry_bytes (put_first e x (listed (entries_of behind)) (omega arith)) ∙ bytes_cons x (put_entry e (listed (entries_of behind))))
            ∙ sym (append_assoc front (bytes_of x) (entry_bytes (put_entry e (listed (entries_of behind)))))
            ∙ ap (λ (l : List ℕ). l ++ entry_bytes (put_entry e (listed (entries_of behind)))) (sym at);
      }

  pub around_same : x.node ≡ u → IsAround sets u (take (length sets - length rest) sets) behind
  unfolding front
  around_same q e h =
      w.put e h
      ∙ ap (λ (l : List ℕ). front ++ l)
      (ap (λ (es : List SetEntry). entry_bytes (put_entry e es)) more ∙ ap entry_bytes (put_same e x (listed (entries_of behind)) (q ∙ sym h)) ∙ bytes_cons e (listed (entries_of behind)) ∙ ap₂ ◌++◌ (bytes_alone e) (sym behind_bytes))

  pub around_before : u < x.node → IsAround sets u (take (length sets - length rest) sets) rest
  unfolding front
  around_before lt e h =
      w.put e h
      ∙ ap (λ (l : List ℕ). front ++ l)
      (ap (λ (es : List SetEntry). entry_bytes (put_entry e es)) more ∙ ap entry_bytes (put_before e x (listed (entries_of behind)) (omega arith)) ∙ bytes_cons e (x ∷ listed (entries_of behind)) ∙ ap₂ ◌++◌ (bytes_alone e) (sym rest_bytes))

around_end : (sets rest : List ℕ) (u : ℕ) → IsUpTo sets rest u → entries_of rest ≡ some [] → rest ≡ [] → IsAround sets u (take (length sets - length rest) sets) rest
around_end sets rest u w m n e h =
    let front = take (length sets - length rest) sets in
    w.put e h
    ∙ ap (λ (l : List ℕ). front ++ l)
    (ap (λ (o : Option (List SetEntry)). entry_bytes (put_entry e (listed o))) m ∙ ap entry_bytes (put_none e) ∙ sym (append-nil (entry_bytes (e ∷ []))) ∙ ap (λ (l : List ℕ). entry_bytes (e ∷ []) ++ l) (sym n))

pub around_last : (sets rest : List ℕ) (u : ℕ) → IsUpTo sets rest u → entries_of rest ≡ no_entry rest → IsAround sets u (take (length sets - length rest) sets) rest
around_last sets [] u w m = around_end sets [] u w m refl
around_last sets (y ∷ l) u w m =
    let z : eqb (length (y ∷ l)) 0 ≡ false = ne_eqb (length (y ∷ l)) 0 (λ e. omega arith) in
    let n : no_entry (y ∷ l) ≡ none = rw z refl in
    absurd (false≢true (sym (ap is_some (m ∙ n)) ∙ w.framed))
