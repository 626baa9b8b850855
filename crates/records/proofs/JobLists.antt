-- A job from lists in any order: what was asked, and the file that is written for it. It is valid, it means the job of the lists, and a file
-- is the one that is written for its own lists.
use Prim.Native.Nat.{ℕ, zero, suc, ◌+◌, ◌*◌, ◌%◌, ◌≤◌, ◌<◌}
use mathlib.Core.Path.{◌≡◌, refl, sym, ap, ◌∙◌, fun_ext}
use mathlib.Core.Bool.{Bool, true, false, cond, ◌&&◌}
use mathlib.Core.Option.{Option, none, some}
use mathlib.Core.List.{List, [], ◌∷◌, ◌++◌, append_assoc, append-nil}
use native.Mathlib.Omega.{arith}
use native.Mathlib.Nat.{mul-le-mul}
use borrow.Author.Tests.{lt-ltb, eqb-true, eq-eqb}
use lib.Dec.{eqb, ltb}
use lib.ListN.{length, length-append}
use Rattle.nodes.specs.Row.{count, members}
use Rattle.nodes.specs.Lists.{has, all}
use Rattle.nodes.proofs.Logic.{and_out}
use Rattle.nodes.proofs.Count.{count-le}
use Rattle.nodes.proofs.Members.{members-length}
use Rattle.angles.specs.AngleRecord.{angle_bytes}
use Rattle.answers.specs.Answer.{gives}
use Rattle.answers.proofs.Answer.{asks_out, then_out}
use Rattle.flows.specs.Job.{plane_xy, plane_xz, pauli_z}
use Rattle.records.specs.Records.{head_bytes, all_yes, each_asks, written, kind_opening, kind_edges, kind_inputs, kind_outputs, kind_measurements, kind_angles}
use Rattle.records.specs.JobFile.{JobFile, most_nodes, mode_causal, mode_planes, mode_pauli, highest_of, opening_allowed, whole_pairs, nodes_below, rises, all_allowed, measurements_asks, angles_asks, has_angles, angles, has_edge}
use Rattle.records.specs.JobLists.{JobLists, lists_of, once, edges_once, angles_given, lists_ask, given_once, meaning, pairs_among, without_angles, ascending}
use Rattle.records.specs.Encoding.{IsBytes, IsAngleBytes, job_bytes, AnglesFit, IsValidJob}
use Rattle.records.specs.Writing.{angle_record, most_job}
use Rattle.records.proofs.Records.{all-append, written-length, written_bytes}
use Rattle.records.proofs.JobFile.{allowed_out, allowed_in, measurements_out, angles_out, allowed_below}
use Rattle.records.proofs.Writing.{members_under, members_rise}
use Rattle.records.proofs.NodeLists.{members_same, rising_members, has-count, once-count}
use Rattle.records.proofs.PairKeys.{IsRisingPairs, bytes}
use Rattle.records.proofs.PairLists.{among-length, graph_rises, graph_same, graph_list, once_loop, edges_count}

-- ---- what is asked of the lists, as facts
pub record IsAsked (l : JobLists) : Type 0 where
  pub few : l.n ≤ most_nodes
  pub mode_from : mode_causal ≤ l.mode
  pub mode_to : l.mode ≤ mode_pauli
  pub pairs : whole_pairs l.edges ≡ true
  pub edges_below : nodes_below l.n l.edges ≡ true
  pub inputs_below : nodes_below l.n l.inputs ≡ true
  pub outputs_below : nodes_below l.n l.outputs ≡ true
  pub count : length l.measurements ≡ l.n
  pub allowed : all_allowed l.mode (has l.outputs) 0 l.measurements ≡ true
  pub angles : AnglesFit l.n l.mode (has l.outputs) l.angles

-- of angles, where they are given
given_out : (n mode : ℕ) (output : ℕ → Bool) (o : Option (List ℕ)) (b : Bool) → angles_given n mode output o ≡ gives b → AnglesFit n mode output o
unfolding angles_given
given_out n mode output none b e = tt
given_out n mode output (some p) b e =
    let (h, a) = asks_out 4 (has_angles mode) (angles_asks n output p) b e in
    let (l, w) = angles_out n output p (ap all_yes a) in
    (eqb-true mode mode_planes h, l, w)

given_in : (n mode : ℕ) (output : ℕ → Bool) (o : Option (List ℕ)) → AnglesFit n mode output o → angles_given n mode output o ≡ gives true
unfolding angles_given angles_asks each_asks
given_in n mode output none h = refl
given_in n mode output (some p) (h, l, w) = rw (eq-eqb mode mode_planes h, eq-eqb (length p) (angle_bytes * n) l, w)

asked_out : (l : JobLists) (b : Bool) → lists_ask l ≡ gives b → IsAsked l
unfolding lists_ask
asked_out l b e =
    let (o, e1) = asks_out 4 (opening_allowed l.n l.mode) _ b e in
    let (w, e2) = asks_out 3 (whole_pairs l.edges) _ b e1 in
    let (g, e3) = asks_out 5 (nodes_below l.n l.edges) _ b e2 in
    let (i, e4) = asks_out 5 (nodes_below l.n l.inputs) _ b e3 in
    let (u, e5) = asks_out 5 (nodes_below l.n l.outputs) _ b e4 in
    let (o1, o2, o3) = allowed_out l.n l.mode o in
    let (c, m, a) = then_out (measurements_asks l.n l.mode (has l.outputs) l.measurements) _ b e5 in
    let (m1, m2) = measurements_out l.n l.mode (has l.outputs) l.measurements (ap all_yes m) in
    record { few = o1; mode_from = o2; mode_to = o3; pairs = w; edges_below = g; inputs_below = i; outputs_below = u; count = m1; allowed = m2; angles = given_out l.n l.mode (has l.outputs) l.angles b a }

asked_in : (l : JobLists) → IsAsked l → lists_ask l ≡ gives true
unfolding lists_ask measurements_asks
asked_in l a =
    rw (
      allowed_in l.n l.mode a.few a.mode_from a.mode_to,
      a.pairs,
      a.edges_below,
      a.inputs_below,
      a.outputs_below,
      eq-eqb (length l.measurements) l.n a.count,
      a.allowed,
      given_in l.n l.mode (has l.outputs) l.angles a.angles,
    )

pub lists_asked : (l : JobLists) → lists_ask l ≡ gives true → IsAsked l
lists_asked l e = asked_out l true e

-- what the questions give is always yes
pub lists_yes : (l : JobLists) (b : Bool) → lists_ask l ≡ gives b → lists_ask l ≡ gives true
lists_yes l b e = asked_in l (asked_out l b e)

-- ---- how long the written file is
record_length : (kind : ℕ) (p rest : List ℕ) → length (written kind p ++ rest) ≡ head_bytes + length p + length rest
record_length kind p rest = omega (arith, length-append (written kind p) rest, written-length kind p)

-- the angles stand behind all else
pub job_parts : (f : JobFile) → job_bytes f ≡ job_bytes (without_angles f) ++ angle_record f.angles
job_parts f = by f.angles
  where
    five : (t : List ℕ) → List ℕ
    five t = written kind_opening (f.n ∷ f.mode ∷ []) ++ (written kind_edges f.edges ++ (written kind_inputs f.inputs ++ (written kind_outputs f.outputs ++ (written kind_measurements f.measurements ++ t))))

    moved : (t : List ℕ) → five [] ++ t ≡ five t
    moved t =
        rw (append_assoc, append_assoc, append_assoc, append_assoc, append_assoc) refl

    by : (o : Option (List ℕ)) → five ((angles f.n f.mode (has f.outputs)).encode o) ≡ five [] ++ angle_record o
    by none = sym (append-nil (five []))
    by (some p) = sym (moved (written kind_angles p))

pub job_length : (f : JobFile) → length (job_bytes (without_angles f)) ≡ 5 * head_bytes + 2 + length f.edges + length f.inputs + length f.outputs + length f.measurements
job_length f = rw (record_length, record_length, record_length, record_length, record_length) (omega arith)

-- there are n nodes below n, and so many pairs among them at most
nodes_length : (n : ℕ) → length (members n (λ u. true)) ≡ n
unfolding count
nodes_length n = members-length n (λ u. true) ∙ counted n
  where
    counted : (n : ℕ) → count n (λ u. true) ≡ n
    counted zero = refl
    counted (suc n) = ap suc (counted n)

nodes_pairs : (n : ℕ) (e : ℕ → ℕ → Bool) → length (pairs_among e (members n (λ u. true))) + n ≤ n * n
nodes_pairs n e = rw (nodes_length n) at (among-length e (members n (λ u. true)))

members_few : (n : ℕ) (s : ℕ → Bool) → length (members n s) ≤ n
members_few n s = rw (members-length n s) (count-le n s)

-- angles are as many as nodes
pub record_few : (n mode : ℕ) (output : ℕ → Bool) (o : Option (List ℕ)) → AnglesFit n mode output o → length (angle_record o) ≤ head_bytes + angle_bytes * n
record_few n mode output none h = omega arith
record_few n mode output (some p) (h, l, w) = omega (arith, written-length kind_angles p, l)

pub ascending-length : (l : JobLists) → lists_ask l ≡ gives true → length (job_bytes (ascending (meaning l))) ≤ most_job
ascending-length l e =
    let a = lists_asked l e in
    let f = ascending (meaning l) in
    let whole : length (job_bytes f) ≡ length (job_bytes (without_angles f)) + length (angle_record l.angles) = ap length (job_parts f) ∙ length-append (job_bytes (without_angles f)) (angle_record l.angles) in
    let square : l.n * l.n ≤ most_nodes * most_nodes = mul-le-mul {n₁ = l.n} {m₁ = l.n} {n₂ = most_nodes} {m₂ = most_nodes} a.few a.few in
    omega (
      arith,
      whole,
      job_length f,
      record_few l.n l.mode (has l.outputs) l.angles a.angles,
      a.few,
      a.count,
      square,
      nodes_pairs l.n (has_edge l.edges),
      members_few l.n (has l.inputs),
      members_few l.n (has l.outputs),
    )

-- ---- the written file
module _ (l : JobLists) (e : lists_ask l ≡ gives true) where
  asked : IsAsked l
  asked = lists_asked l e

  small : l.n ≤ 256
  small = omega (arith, asked.few)

  same_nodes : (k : List ℕ) → nodes_below l.n k ≡ true → has (members l.n (has k)) ≡ has k
  same_nodes k b = fun_ext (members_same l.n k b)

  pub ascending_valid : IsValidJob (ascending (meaning l))
  ascending_valid =
      let p = graph_rises l.n small (has_edge l.edges) in
      record {
        few = asked.few;
        mode_from = asked.mode_from;
        mode_to = asked.mode_to;
        pairs = p.whole;
        edges_below = p.below;
        edges_rise = p.rise;
        inputs_below = members_under l.n (has l.inputs);
        inputs_rise = members_rise l.n (has l.inputs);
        outputs_below = members_under l.n (has l.outputs);
        outputs_rise = members_rise l.n (has l.outputs);
        count = asked.count;
        allowed = rw (same_nodes l.outputs asked.outputs_below) asked.allowed;
        angles = rw (same_nodes l.outputs asked.outputs_below) asked.angles;
      }

  same_edges : edges_once l.edges ≡ true → has_edge (pairs_among (has_edge l.edges) (members l.n (λ u. true))) ≡ has_edge l.edges
  same_edges o = fun_ext (λ u. fun_ext (graph_same l.n small l.edges asked.edges_below (once_loop l.edges o) u))

  pub ascending_means : given_once l ≡ true → meaning (lists_of (ascending (meaning l))) ≡ meaning l
  ascending_means o =
      let (p, q) = and_out (edges_once l.edges && once l.inputs) (once l.outputs) o in
      let (r, t) = and_out (edges_once l.edges) (once l.inputs) p in
      rw (same_edges r, same_nodes l.inputs asked.inputs_below, same_nodes l.outputs asked.outputs_below)

-- ---- a valid file
-- a record of bytes before bytes
bytes_before : (kind : ℕ) (p rest : List ℕ) → kind < 65536 → IsBytes p → IsBytes rest → IsBytes (written kind p ++ rest)
bytes_before kind p rest h b r = all-append (λ b. ltb b 256) (written kind p) rest (written_bytes kind p h b) r

-- no measurement is more than a byte
few_measurements : (c d : Bool) → cond c plane_xy (cond d plane_xz pauli_z) + 1 ≤ 256
few_measurements true d = omega arith
few_measurements false true = omega arith
few_measurements false false = omega arith

module _ (f : JobFile) (v : IsValidJob f) where
  edges_rise_lem : IsRisingPairs f.n f.edges
  edges_rise_lem = record { whole = v.pairs; below = v.edges_below; rise = v.edges_rise }

  one_byte : f.n ≤ 256
  one_byte = omega (arith, v.few)

  -- it is the one that is written for its own lists
  pub file_ascending : f.after ≡ [] → ascending (meaning (lists_of f)) ≡ f
  file_ascending e =
      rw (
        graph_list f.n one_byte f.edges edges_rise_lem,
        rising_members f.n f.inputs v.inputs_below v.inputs_rise,
        rising_members f.n f.outputs v.outputs_below v.outputs_rise,
        ← e,
      )

  whole : whole_pairs f.edges ≡ true
  whole = eq-eqb (length f.edges % 2) 0 v.pairs

  -- its lists pass the questions, and give nothing twice
  pub valid_asks : lists_ask (lists_of f) ≡ gives true
  valid_asks =
      asked_in (lists_of f) (record {
        few = v.few;
        mode_from = v.mode_from;
        mode_to = v.mode_to;
        pairs = whole;
        edges_below = v.edges_below;
        inputs_below = v.inputs_below;
        outputs_below = v.outputs_below;
        count = v.count;
        allowed = v.allowed;
        angles = v.angles;
      })

  once_nodes : (k : List ℕ) → nodes_below f.n k ≡ true → rises 0 k ≡ true → once k ≡ true
  once_nodes k b r = sym (once-count f.n k b) ∙ eq-eqb (count f.n (has k)) (length k) (has-count f.n 0 k b r)

  pub valid_once : given_once (lists_of f) ≡ true
  valid_once = rw (edges, once_nodes f.inputs v.inputs_below v.inputs_rise, once_nodes f.outputs v.outputs_below v.outputs_rise)
    where
      edges : edges_once f.edges ≡ true
      edges =
          sym (edges_count f.n f.edges one_byte whole v.edges_below)
          ∙ eq-eqb _ _ (ap length (graph_list f.n one_byte f.edges edges_rise_lem))

  -- it is bytes, where the angles are
  pub valid_bytes : IsAngleBytes f.angles → IsBytes (job_bytes f)
  unfolding all
  valid_bytes angled =
      bytes_before kind_opening (f.n ∷ f.mode ∷ []) _ (omega arith) (rw (lt-ltb f.n 256 (omega (arith, v.few)), lt-ltb f.mode 256 (omega (arith, v.mode_to))))
      (bytes_before kind_edges f.edges _ (omega arith) (bytes f.n one_byte f.edges v.edges_below)
      (bytes_before kind_inputs f.inputs _ (omega arith) (bytes f.n one_byte f.inputs v.inputs_below)
      (bytes_before kind_outputs f.outputs _ (omega arith) (bytes f.n one_byte f.outputs v.outputs_below)
      (bytes_before kind_measurements f.measurements _ (omega arith)
      (bytes (highest_of f.mode + 1) (few_measurements (eqb f.mode mode_causal) (eqb f.mode mode_planes)) f.measurements (allowed_below f.mode (has f.outputs) 0 f.measurements v.allowed))
      (angle_bytes_lem f.angles angled)))))
    where
      angle_bytes_lem : (o : Option (List ℕ)) → IsAngleBytes o → IsBytes ((angles f.n f.mode (has f.outputs)).encode o)
      angle_bytes_lem none h = refl
      angle_bytes_lem (some p) h = written_bytes kind_angles p (omega arith) h
