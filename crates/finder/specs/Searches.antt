-- The call of the search, for planes or for Paulis: what it works with, and what it answers and leaves in the lent buffers.
use Rattle.std.specs.Prelude.{ℕ, ◌+◌, ◌*◌, ◌/◌, ◌%◌, ◌≡◌, Bool, true, false, cond, ◌&&◌, ◌||◌, List, eqb, leb, ltb, length, get_or}
use Rattle.answers.specs.Answer.{Answer, gives, refuses, refusal}
use Rattle.nodes.specs.Bit.{digits}
use Rattle.nodes.specs.Row.{all_below}
use Rattle.nodes.specs.NodeSet.{member, capacity, word_bits}
use Rattle.nodes.specs.Lists.{list_of, zeros}
use Rattle.nodes.specs.SetTable.{table_words, set_words, set_at}
use Rattle.solver.specs.Solver.{work_bytes}
use Rattle.flows.specs.Job.{Job, plane_xy, plane_yz, plane_xz, pauli_y, is_x_or_y, is_y_or_z}
use Rattle.flows.specs.Search.{Progress, round}
use Rattle.flows.specs.Tries.{try_at}
use Rattle.flows.specs.Planes as Planes
use Rattle.flows.specs.Paulis as Paulis
use Rattle.finder.specs.Visits.{cut_to}
use Rattle.finder.specs.declared.job.Kinds.{Kinds}
use Rattle.finder.specs.declared.job.Rule.{Rule}
use Rattle.finder.specs.declared.job.Rule.TheVariants.{Planes as PlanesRule, Paulis as PaulisRule}
use Rattle.finder.specs.declared.search.Search.{Search}
use Rattle.finder.specs.declared.search.Search.TheVariants.{Flow, NoFlow}

-- the job that the arguments hold: the graph as a table of the nodes' neighbours
abbrev pub job_in : (n : ℕ) (graph : List ℕ) (inputs outputs : List ℕ) (measured : List ℕ) → Job
job_in n graph inputs outputs measured = record {
  nodes = n;
  edge = set_at graph;
  input = member inputs;
  output = member outputs;
  measured = λ u. get_or measured u 0;
}

-- are the sizes right: no more nodes than a set can have, a measurement for each, and buffers of exact length
unfoldable pub sizes_fit : (n : ℕ) (graph measured work layers sets : List ℕ) → Bool
sizes_fit n graph measured work layers sets =
    leb n capacity
    && (eqb (length graph) table_words
    && (leb n (length measured)
    && (eqb (length work) work_bytes
    && (eqb (length layers) capacity
    && eqb (length sets) table_words))))

-- the layers of the nodes below n, and 0 past them
abbrev pub layers_of : ℕ → Progress → List ℕ
layers_of n p = list_of capacity (λ u. cond (ltb u n) (p.layer u) 0)

-- the words of the sets of the nodes below n, and none past them
abbrev pub set_table : ℕ → Progress → List ℕ
set_table n p = list_of table_words (λ i. digits word_bits (λ t. ltb (i / set_words) n && p.set (i / set_words) (word_bits * (i % set_words) + t)))

-- whether nodes may be measured in Paulis too
abbrev pub with_paulis : Rule → Bool
with_paulis PlanesRule = false
with_paulis PaulisRule = true

-- how far the search of the mode comes
abbrev pub progress_at : Bool → Job → Progress
progress_at pauli j = cond pauli (Paulis.progress j) (Planes.progress j)

-- whether there is a flow
abbrev pub is_flow : Search → Bool
is_flow Flow = true
is_flow NoFlow = false

-- what a call answers, and what it leaves in the lent buffers
pub record SearchOutcome : Type 0 where
  pub answer : Answer Bool
  pub work : List ℕ
  pub layers : List ℕ
  pub sets : List ℕ

abbrev pub is_plane : ℕ → Bool
is_plane m = eqb m plane_xy || (eqb m plane_yz || eqb m plane_xz)

-- each node that is no output is measured in a plane
abbrev pub planes_given : Job → Bool
planes_given j = all_below j.nodes (λ u. j.output u || is_plane (j.measured u))

-- a node still unsolved at the end means no flow
abbrev pub answer_of : ℕ → (ℕ → Bool) → Answer Bool
answer_of n solved = gives (all_below n solved)

-- the work matrix zero, and all layers and sets that were found, whether or not each node has one
abbrev pub searched : ℕ → Progress → SearchOutcome
searched n p = record { answer = answer_of n p.solved; work = zeros work_bytes; layers = layers_of n p; sets = set_table n p }

-- wrong arguments leave each buffer as it was
abbrev pub refused : (work layers sets : List ℕ) → SearchOutcome
refused work layers sets = record { answer = refuses (refusal 11); work = work; layers = layers; sets = sets }

-- a call of a search, for Paulis or for planes
unfoldable pub search_call : (pauli : Bool) (n : ℕ) (graph : List ℕ) (inputs outputs : List ℕ) (measured work layers sets : List ℕ) → SearchOutcome
search_call pauli n graph inputs outputs measured work layers sets =
    let j = job_in n graph inputs outputs measured in
    let fits = sizes_fit n graph measured work layers sets && (pauli || planes_given j) in
    let done = searched n (progress_at pauli j) in
    cond fits done (refused work layers sets)

-- ---- within a search
-- the nodes that are excused with Paulis, those measured in X or Y, in Y or Z, and in Y; beside them those measured in XY
pub record IsKindsOf (pauli : Bool) (n : ℕ) (measured : List ℕ) (k : Kinds) : Type 0 where
  pub xy : member k.xy ≡ (λ u. ltb u n && (pauli && is_x_or_y (get_or measured u 0)))
  pub yz : member k.yz ≡ (λ u. ltb u n && (pauli && is_y_or_z (get_or measured u 0)))
  pub y : member k.y ≡ (λ u. ltb u n && (pauli && eqb (get_or measured u 0) pauli_y))
  pub plain : member k.plain ≡ (λ u. ltb u n && eqb (get_or measured u 0) plane_xy)

-- round r, where the nodes `later` are later than all of it, has made q of p, of the nodes below n; for any outputs, since no try asks for them
abbrev pub IsAdvanced : (pauli : Bool) (n : ℕ) (graph : List ℕ) (inputs : List ℕ) (measured : List ℕ) (later : ℕ → Bool) (r : ℕ) (p q : Progress) → Type 0
IsAdvanced pauli n graph inputs measured later r p q =
    (outputs : List ℕ) → q ≡ cut_to n (round (try_at (job_in n graph inputs outputs measured) pauli later) r p)
