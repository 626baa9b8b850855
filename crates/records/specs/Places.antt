-- Where the parts of a job and of a flow lie in the file that they were read from.
use Rattle.std.specs.Prelude.{ℕ, ◌+◌, ◌-◌, ◌≤◌, ◌≡◌, Bool, cond, ◌&&◌, List, length, get_or, take, drop}
use Rattle.flows.specs.Numbers.{mode_number}
use Rattle.records.specs.Records.{carries, length_field, head_bytes, kind_wide_layers, kind_set_signals, kind_angles}
use Rattle.records.specs.JobFile.{JobFile, has_angles}
use Rattle.records.specs.FlowFile.{FlowFile, layer_numbers, entries_of, listed}
use Rattle.records.specs.Views.{option_of, some_if, lists_held, pair_if}
use Rattle.records.specs.declared.common.Place.{Place}
use Rattle.records.specs.declared.job_file.JobFile as JobRead
use Rattle.records.specs.declared.flow_file.FlowFile as FlowRead

-- the bytes from a up to b
abbrev pub between : ℕ → ℕ → List ℕ → List ℕ
between a b s = take (b - a) (drop a s)

abbrev pub bytes_at : Place → List ℕ → List ℕ
bytes_at p s = between p.start p.end s

-- the payload of the record that starts at `at`: behind the record's head, as many bytes as that says
abbrev pub payload_from : List ℕ → (at : ℕ) → Place
payload_from s at = record { start = at + head_bytes; end = at + head_bytes + length_field (drop at s) }

-- of a record that may be there: its payload, or an empty place where it would start
abbrev pub optional_from : List ℕ → (there : Bool) (at : ℕ) → Place
optional_from s there at = cond there (payload_from s at) (record { start = at; end = at })

-- ---- a job: where its payloads lie, whether the angles are there, and where it ends
pub record JobPlaces : Type 0 where
  pub n : ℕ
  pub mode : ℕ
  pub edges : Place
  pub inputs : Place
  pub outputs : Place
  pub measurements : Place
  pub angled : Bool
  pub angles : Place
  pub end : ℕ

-- each record starts where the one before it ends
unfoldable pub job_places : List ℕ → JobPlaces
job_places s =
    let opening = payload_from s 0 in
    let mode = get_or (bytes_at opening s) 1 0 in
    let edges = payload_from s opening.end in
    let inputs = payload_from s edges.end in
    let outputs = payload_from s inputs.end in
    let measurements = payload_from s outputs.end in
    let there = has_angles mode && carries kind_angles (drop measurements.end s) in
    let angles = optional_from s there measurements.end in
    record {
      n = get_or (bytes_at opening s) 0 0;
      mode = mode;
      edges = edges;
      inputs = inputs;
      outputs = outputs;
      measurements = measurements;
      angled = there;
      angles = angles;
      end = angles.end;
    }

-- the job at these places
abbrev pub job_at : List ℕ → JobPlaces → JobFile
job_at s p = record {
  n = p.n;
  mode = p.mode;
  edges = bytes_at p.edges s;
  inputs = bytes_at p.inputs s;
  outputs = bytes_at p.outputs s;
  measurements = bytes_at p.measurements s;
  angles = some_if p.angled (bytes_at p.angles s);
  after = drop p.end s;
}

-- a job that was read lies at these places, in the file
pub record IsJobPlaced (s : List ℕ) (f : JobRead.JobFile) : Type 0 where
  pub n : f.n ≡ (job_places s).n
  pub mode : mode_number f.mode ≡ (job_places s).mode
  pub edges : f.edges.now ≡ bytes_at (job_places s).edges s
  pub inputs : f.inputs.now ≡ bytes_at (job_places s).inputs s
  pub outputs : f.outputs.now ≡ bytes_at (job_places s).outputs s
  pub measurements : f.measurements.now ≡ bytes_at (job_places s).measurements s
  pub angles : option_of f.angles ≡ some_if (job_places s).angled (bytes_at (job_places s).angles s)
  pub after : f.after.now ≡ drop (job_places s).end s
  pub inside : (job_places s).end ≤ length s

-- ---- a flow: where its payloads lie, whether its layers are of the wide kind, whether the signal lists are there, and where it ends
pub record FlowPlaces : Type 0 where
  pub wide : Bool
  pub layers : Place
  pub sets : Place
  pub signals : Bool
  pub rows : Place
  pub odds : Place
  pub end : ℕ

-- its first record starts at `at`
unfoldable pub flow_places : List ℕ → (at : ℕ) → FlowPlaces
flow_places s at =
    let layers = payload_from s at in
    let sets = payload_from s layers.end in
    let there = carries kind_set_signals (drop sets.end s) in
    let first = optional_from s there sets.end in
    let second = cond there (payload_from s first.end) first in
    record {
      wide = carries kind_wide_layers (drop at s);
      layers = layers;
      sets = sets;
      signals = there;
      rows = first;
      odds = second;
      end = second.end;
    }

-- the flow at these places
abbrev pub flow_at : List ℕ → FlowPlaces → FlowFile
flow_at s p = record {
  wide = p.wide;
  layers = layer_numbers p.wide (bytes_at p.layers s);
  sets = listed (entries_of (bytes_at p.sets s));
  signals = pair_if p.signals (bytes_at p.rows s) (bytes_at p.odds s);
  after = drop p.end s;
}

-- a flow that was read lies at these places, in the file
pub record IsFlowPlaced (s : List ℕ) (at : ℕ) (f : FlowRead.FlowFile) : Type 0 where
  pub wide : f.wide ≡ (flow_places s at).wide
  pub layers : f.layers.now ≡ bytes_at (flow_places s at).layers s
  pub sets : f.sets.now ≡ bytes_at (flow_places s at).sets s
  pub signals : lists_held f.signals ≡ pair_if (flow_places s at).signals (bytes_at (flow_places s at).rows s) (bytes_at (flow_places s at).odds s)
  pub after : f.after.now ≡ drop (flow_places s at).end s
  pub inside : (flow_places s at).end ≤ length s
