-- Of specs/Shown: the numbers that each list adds when it is read.
use Prim.Native.Nat.{ℕ, suc, ◌+◌, ◌%◌, ◌≤◌, ◌<◌}
use Prim.Native.Char.{code}
use mathlib.Core.Path.{◌≡◌, refl, sym, ap, ◌∙◌}
use mathlib.Core.Bool.{Bool, true, false, cond, ◌||◌, false≢true}
use mathlib.Core.List.{List, [], ◌∷◌, ◌++◌, append_assoc, append-nil}
use native.Mathlib.Omega.{arith}
use borrow.Author.Tests.{ltb-true, le-leb, lt-ltb, le-ltb, ne_eqb}
use lib.Dec.{eqb, leb, ltb}
use lib.ListN.{length, get_or, length-append}
use Rattle.nodes.specs.Lists.{has, all}
use Rattle.nodes.proofs.Logic.{and_out}
use Rattle.answers.specs.Message.{codes, in_decimal}
use Rattle.records.specs.JobFile.{JobFile}
use Rattle.records.specs.Encoding.{IsBytes}
use Rattle.texts.specs.Pieces.{pieces}
use Rattle.texts.specs.Words.{Word, Name, Number, Edge, names, name_count, most_number, nodes_name, mode_name, edges_name, outputs_name}
use Rattle.texts.specs.JobText.{Reading, read, numbers, added, opening_bytes, in_shape, after_word, said, read_text}
use Rattle.texts.specs.Shown.{shown_number, shown_nodes, edges_in_line, shown_edge, shown_edges, shown_measured, shown_measurement, shown_opening}
use Rattle.texts.proofs.Reading.{lines_end}
use Rattle.texts.proofs.Lexing.{Ends, blank, feed, says_from, word_front, skip_blank, skip_feed}
use Rattle.texts.proofs.ShownWords.{Tells, number_told, edge_told, name_told}

-- each number behind the place of its name
unfoldable pub pairs : (name : ℕ) → List ℕ → List ℕ
pairs name [] = []
pairs name (x ∷ xs) = name ∷ x ∷ pairs name xs

-- the nodes, from v on, that are measured so
unfoldable pub nodes_with : (m v : ℕ) → List ℕ → List ℕ
nodes_with m v [] = []
nodes_with m v (x ∷ ms) = cond (eqb x m) (v ∷ nodes_with m (suc v) ms) (nodes_with m (suc v) ms)

nodes_measured : (m v : ℕ) (ms : List ℕ) → shown_measured m v ms ≡ shown_nodes (nodes_with m v ms)
unfolding shown_measured shown_nodes nodes_with
nodes_measured m v [] = refl
nodes_measured m v (x ∷ ms) = by (eqb x m) (nodes_measured m (suc v) ms)
  where
    by : (t : Bool) → shown_measured m (suc v) ms ≡ shown_nodes (nodes_with m (suc v) ms)
        → cond t (shown_number v) [] ++ shown_measured m (suc v) ms ≡ shown_nodes (cond t (v ∷ nodes_with m (suc v) ms) (nodes_with m (suc v) ms))
    by true e = ap (λ (l : List ℕ). shown_number v ++ l) e
    by false e = e

nodes_none : (m v : ℕ) (ms : List ℕ) → has ms m ≡ false → nodes_with m v ms ≡ []
unfolding has nodes_with
nodes_none m v [] h = refl
nodes_none m v (x ∷ ms) h = by (eqb x m) (nodes_none m (suc v) ms) h
  where
    others : List ℕ
    others = nodes_with m (suc v) ms

    by : (t : Bool) → (has ms m ≡ false → others ≡ []) → (t || has ms m) ≡ false → cond t (v ∷ others) others ≡ []
    by true e h = absurd (false≢true (sym h))
    by false e h = e h

nodes_bytes : (m v : ℕ) (ms : List ℕ) → v + length ms ≤ 256 → IsBytes (nodes_with m v ms)
unfolding all nodes_with
nodes_bytes m v [] h = refl
nodes_bytes m v (x ∷ ms) h = by (eqb x m) (nodes_bytes m (suc v) ms (omega arith))
  where
    others : List ℕ
    others = nodes_with m (suc v) ms

    by : (t : Bool) → IsBytes others → IsBytes (cond t (v ∷ others) others)
    by true e = rw (lt-ltb v 256 (omega arith)) e
    by false e = e

first_byte : (x : ℕ) (xs : List ℕ) → IsBytes (x ∷ xs) → (x ≤ most_number) × IsBytes xs
unfolding all
first_byte x xs b =
    let (this, others) = and_out (ltb x 256) (all (λ v. ltb v 256) xs) b in
    (omega (arith, ltb-true x 256 this), others)

module _ (room : ℕ) where
  -- a text, read behind a name and once nodes and mode are there, adds these numbers
  pub record Adds (name : ℕ) (s more : List ℕ) : Type 0 where
    pub ends : Ends s
    pub adds : (before : ℕ) (ns : List ℕ) → opening_bytes ≤ length ns → length ns + length more ≤ room
        → says_from room before (read name ns) s ≡ numbers (ns ++ more)

  -- whatever name was last
  abbrev pub Says : (s more : List ℕ) → Type 0
  Says s more = (name : ℕ) → Adds name s more

  pub last_feed : Says (code "\n" ∷ []) []
  unfolding pieces
  last_feed name = record {
    ends = feed [];
    adds = λ before ns h l.
        skip_feed room before name ns [] ∙ sym (lines_end room (suc before) name ns [] refl h) ∙ ap numbers (sym (append-nil ns));
  }

  -- ---- one word
  module _ (before name : ℕ) (ns w s : List ℕ) (x : Word) (r : Reading) (t : Tells w x) (e : Ends s) (g : said room name ns x ≡ r) where
    word_told : says_from room before (read name ns) (w ++ s) ≡ says_from room before r s
    word_told = word_front room before (read name ns) w s t.0 e ∙ ap (λ (r : Reading). says_from room before r s) (by w t)
      where
        by : (w : List ℕ) → Tells w x → after_word room (read name ns) w ≡ r
        by [] (f, e) = absurd (false≢true f)
        by (c ∷ w) (f, e) = ap (said room name ns) e ∙ g

    blank_word : says_from room before (read name ns) (code " " ∷ w ++ s) ≡ says_from room before r s
    blank_word = skip_blank room before name ns w s t.0 ∙ word_told

  -- a name on a new line
  pub new_name : (k : ℕ) (s more : List ℕ) → k < name_count → Adds k s more → Says (code "\n" ∷ get_or names k [] ++ s) more
  new_name k s more h a name =
      let w = get_or names k [] in
      record {
        ends = feed (w ++ s);
        adds = λ before ns few l.
            skip_feed room before name ns (w ++ s)
            ∙ word_told (suc before) name ns w s (Name k) (read k ns) (name_told k h) a.ends refl
            ∙ a.adds (suc before) ns few l;
      }

  -- numbers behind those that were read
  adds_some : (name : ℕ) (ns some : List ℕ) (edge : Bool) → opening_bytes ≤ length ns → mode_name < name → in_shape name edge ≡ true
      → length ns + length some ≤ room → added room name ns edge some ≡ read name (ns ++ some)
  adds_some name ns some edge few late shape l =
      rw (le-ltb (length ns) opening_bytes few, lt-ltb mode_name name late, shape, le-leb (length ns + length some) room l) refl

  one_more : (name : ℕ) (w s some more : List ℕ) (x : Word) (edge : Bool) → Tells w x
      → ((ns : List ℕ) → said room name ns x ≡ added room name ns edge some)
      → mode_name < name → in_shape name edge ≡ true → Adds name s more → Adds name (code " " ∷ w ++ s) (some ++ more)
  one_more name w s some more x edge t says late shape a = record {
    ends = blank (w ++ s);
    adds = λ before ns few l.
        let size : length (ns ++ some) ≡ length ns + length some = length-append ns some in
        let whole : length (some ++ more) ≡ length some + length more = length-append some more in
        blank_word before name ns w s x (read name (ns ++ some)) t a.ends (says ns ∙ adds_some name ns some edge few late shape (omega arith))
        ∙ a.adds before (ns ++ some) (omega arith) (omega arith)
        ∙ ap numbers (append_assoc ns some more);
  }

  -- ---- lists of nodes
  module _ (name : ℕ) (late : mode_name < name) (shape : in_shape name false ≡ true) where
    one_node : (x : ℕ) (s more : List ℕ) → x ≤ most_number → Adds name s more → Adds name (shown_number x ++ s) (name ∷ x ∷ more)
    one_node x s more h a = one_more name (in_decimal x) s (name ∷ x ∷ []) more (Number x) false (number_told x h) (λ ns. refl) late shape a

    pub all_nodes : (xs s more : List ℕ) → IsBytes xs → Adds name s more → Adds name (shown_nodes xs ++ s) (pairs name xs ++ more)
    unfolding shown_nodes pairs
    all_nodes [] s more b a = a
    all_nodes (x ∷ xs) s more b a =
        let (this, others) = first_byte x xs b in
        rw (append_assoc (shown_number x) (shown_nodes xs) s)
        (one_node x (shown_nodes xs ++ s) (pairs name xs ++ more) this (all_nodes xs s more others a))

  -- ---- the line of a measurement
  pub one_measurement : (m : ℕ) (ms s more : List ℕ) → outputs_name + m < name_count → length ms ≤ 256 → Says s more
      → Says (shown_measurement m ms ++ s) (pairs (outputs_name + m) (nodes_with m 0 ms) ++ more)
  unfolding pairs
  one_measurement m ms s more h few a = by (has ms m) refl
    where
      name : ℕ
      name = outputs_name + m

      nodes : List ℕ
      nodes = nodes_with m 0 ms

      shape : in_shape name false ≡ true
      shape = rw (ne_eqb (outputs_name + m) edges_name (λ e. omega arith)) refl

      some : Adds name (shown_nodes nodes ++ s) (pairs name nodes ++ more)
      some = all_nodes name (omega arith) shape nodes s more (nodes_bytes m 0 ms (omega arith)) (a name)

      by : (t : Bool) → has ms m ≡ t → Says (cond t (code "\n" ∷ get_or names name [] ++ shown_measured m 0 ms) [] ++ s) (pairs name nodes ++ more)
      by true e =
          rw (append_assoc (get_or names name []) (shown_measured m 0 ms) s, nodes_measured m 0 ms)
          (new_name name (shown_nodes nodes ++ s) (pairs name nodes ++ more) h some)
      by false e = rw (nodes_none m 0 ms e) a

  -- ---- edges
  one_edge : (a b : ℕ) (s more : List ℕ) → a ≤ most_number → b ≤ most_number → Adds edges_name s more
      → Adds edges_name ((shown_number a ++ (code "-" ∷ in_decimal b)) ++ s) (edges_name ∷ a ∷ edges_name ∷ b ∷ more)
  one_edge a b s more h g n =
      one_more edges_name (in_decimal a ++ code "-" ∷ in_decimal b) s (edges_name ∷ a ∷ edges_name ∷ b ∷ []) more (Edge a b) true
      (edge_told a b h g) (λ ns. refl) (omega arith) refl n

  -- its name before it, where it begins a line
  begun : (t : Bool) (w s more : List ℕ) → Adds edges_name (w ++ s) more → (name : ℕ) → (t ≡ false → name ≡ edges_name)
      → Adds name ((cond t (codes "\nedges") [] ++ w) ++ s) more
  unfolding codes pieces
  begun true w s more n name h = new_name edges_name (w ++ s) more (omega arith) n name
  begun false w s more n name h = rw (h refl) n

  -- the first edge begins a line, so the name before it may be any
  pub all_edges : (i : ℕ) (es s more : List ℕ) → length es % 2 ≡ 0 → IsBytes es → Says s more
      → (name : ℕ) → (eqb (i % edges_in_line) 0 ≡ false → name ≡ edges_name) → Adds name (shown_edges i es ++ s) (pairs edges_name es ++ more)
  unfolding shown_edges pairs
  all_edges i [] s more p b n name h = n name
  all_edges i (a ∷ []) s more p b n name h = absurd (omega arith)
  all_edges i (a ∷ b ∷ es) s more p c n name h =
      let (one, d) = first_byte a (b ∷ es) c in
      let (other, rest) = first_byte b es d in
      let text = shown_edges (suc i) es ++ s in
      let numbers = pairs edges_name es ++ more in
      rw (append_assoc (shown_edge i a b) (shown_edges (suc i) es) s)
      (begun (eqb (i % edges_in_line) 0) (shown_number a ++ (code "-" ∷ in_decimal b)) text (edges_name ∷ a ∷ edges_name ∷ b ∷ numbers)
      (one_edge a b text numbers one other (all_edges (suc i) es s more (omega arith) rest n edges_name (λ e. refl))) name h)

  -- ---- nodes and mode, which stand first
  opening_parts : (a b c d t : List ℕ) → (a ++ (b ++ (c ++ d))) ++ t ≡ a ++ (b ++ (c ++ (d ++ t)))
  opening_parts a b c d t = simp append_assoc

  module _ (f : JobFile) (s : List ℕ) where
    -- the text from each word on
    abbrev mode_number_on : List ℕ
    mode_number_on = shown_number f.mode ++ s

    abbrev mode_on : List ℕ
    mode_on = code " " ∷ get_or names mode_name [] ++ mode_number_on

    abbrev nodes_number_on : List ℕ
    nodes_number_on = shown_number f.n ++ mode_on

    opening_words : shown_opening f ++ s ≡ get_or names nodes_name [] ++ nodes_number_on
    unfolding codes pieces
    opening_words = opening_parts (codes "nodes") (shown_number f.n) (codes " mode") (shown_number f.mode) s

    -- the numbers so far
    abbrev one : List ℕ
    one = nodes_name ∷ f.n ∷ []

    abbrev both : List ℕ
    both = nodes_name ∷ f.n ∷ mode_name ∷ f.mode ∷ []

    pub opening_first : (more : List ℕ) → f.n ≤ most_number → f.mode ≤ most_number → opening_bytes + length more ≤ room → Adds mode_name s more
        → read_text room (shown_opening f ++ s) ≡ numbers (nodes_name ∷ f.n ∷ mode_name ∷ f.mode ∷ more)
    opening_first more h g l a =
        let fits : leb (length one) room ≡ true = le-leb (length one) room (omega arith) in
        let fit : leb (length both) room ≡ true = le-leb (length both) room (omega arith) in
        let nodes = name_told nodes_name (omega arith) in
        let mode = name_told mode_name (omega arith) in
        ap (read_text room) opening_words
        ∙ word_told 0 name_count [] (get_or names nodes_name []) nodes_number_on (Name nodes_name) (read nodes_name []) nodes
        (blank (in_decimal f.n ++ mode_on)) refl
        ∙ blank_word 0 nodes_name [] (in_decimal f.n) mode_on (Number f.n) (read nodes_name one) (number_told f.n h)
        (blank (get_or names mode_name [] ++ mode_number_on)) (rw fits refl)
        ∙ blank_word 0 nodes_name one (get_or names mode_name []) mode_number_on (Name mode_name) (read mode_name one) mode (blank (in_decimal f.mode ++ s)) refl
        ∙ blank_word 0 mode_name one (in_decimal f.mode) s (Number f.mode) (read mode_name both) (number_told f.mode g) a.ends (rw fit refl)
        ∙ a.adds 0 both (omega arith) l
