-- Of specs/JobText: what some texts say, computed.
use mathlib.Core.Path.{◌≡◌, refl}
use mathlib.Core.List.{List, [], ◌∷◌}
use Prim.Native.Nat.{ℕ}
use Prim.Native.String.{String}
use Rattle.answers.specs.Answer.{gives, refuses, refusal}
use Rattle.nodes.specs.Lists.{equal, zeros}
use Rattle.answers.specs.Message.{codes}
use Rattle.texts.specs.Pieces.{until, past, pieces}
use Rattle.texts.specs.Words.{place_in, with_digits}
use Rattle.texts.specs.JobText.{TextRead, numbers, faulty, out_of_order, wrong_shape, no_word, too_many, after_words, after_lines, read_text, behind, measured}

abbrev said_by : String → TextRead
said_by text = read_text 20 (codes text)

-- the path 0-1-2 in five lines, and the same in other words
abbrev path : List ℕ
path = 0 ∷ 3 ∷ 1 ∷ 2 ∷ 2 ∷ 0 ∷ 2 ∷ 1 ∷ 2 ∷ 1 ∷ 2 ∷ 2 ∷ 3 ∷ 0 ∷ 4 ∷ 2 ∷ 5 ∷ 0 ∷ 5 ∷ 1 ∷ []

pub five_lines : said_by "nodes 3 mode 2\nedges 0-1 1-2\ninputs 0\noutputs 2\nXY 0 1\n" ≡ numbers path
unfolding codes until past pieces equal place_in with_digits after_words after_lines
five_lines = refl

pub other_lines : said_by "# a path\n\nnodes 3\n  mode 02 # planes\r\nedges 0-1\n1-2 inputs 0 outputs\t2\nXY 0\nXY 1" ≡ numbers path
unfolding codes until past pieces equal place_in with_digits after_words after_lines
other_lines = refl

-- each fault, in the line behind so many others
pub no_mode : said_by "nodes 3\nedges 0-1\n" ≡ faulty 1 out_of_order
unfolding codes until past pieces equal place_in with_digits after_words after_lines
no_mode = refl

pub no_dash : said_by "nodes 3 mode 2\nedges 0 1\n" ≡ faulty 1 wrong_shape
unfolding codes until past pieces equal place_in with_digits after_words after_lines
no_dash = refl

pub large_number : said_by "nodes 3 mode 2\n\ninputs 256\n" ≡ faulty 2 no_word
unfolding codes until past pieces equal place_in with_digits after_words after_lines
large_number = refl

pub no_room : said_by "nodes 3 mode 2\nedges 0-1 1-2\nXY 0 1 2 2 2\n" ≡ faulty 2 too_many
unfolding codes until past pieces equal place_in with_digits after_words after_lines
no_room = refl

-- its lists
pub path_edges : behind 2 path ≡ 0 ∷ 1 ∷ 1 ∷ 2 ∷ []
unfolding behind
path_edges = refl

pub path-measured : measured path (zeros 3) ≡ gives (1 ∷ 1 ∷ 0 ∷ [])
unfolding measured
path-measured = refl

pub twice_measured : measured (5 ∷ 0 ∷ 8 ∷ 0 ∷ []) (zeros 3) ≡ refuses (refusal 21)
unfolding measured
twice_measured = refl
