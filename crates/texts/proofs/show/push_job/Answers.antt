use Rattle.std.proofs.Common.{◌++◌, [], List, ℕ, refl, sym, ap, arith, append-nil}
use Rattle.answers.specs.Message.{codes}
use Rattle.records.specs.JobFile.{JobFile}
use Rattle.records.specs.Views.{job_held}
use Rattle.texts.specs.Words.{inputs_name, outputs_name}
use Rattle.texts.specs.Shown.{shown_opening, shown_edges, shown_measurements, shown_text}
use Rattle.texts.specs.Placed.{Puts}
use Rattle.texts.proofs.Placed.{Leads, room_here, leads_on, leads_done}
use Rattle.texts.proofs.Showing.{named_list, by_lists}
use Rattle.texts.proofs.show.push_job.Goals.{After-push_opening, After-push_edges, After-push_list, After-push_list-2, After-push_measurements}
use Rattle.texts.proofs.show.push_job.Goals as goal

-- what stands behind each piece
abbrev measurements_on : JobFile → List ℕ
measurements_on f = shown_measurements f.measurements ++ codes "\n"

abbrev outputs_on : JobFile → List ℕ
outputs_on f = named_list outputs_name f.outputs ++ measurements_on f

abbrev inputs_on : JobFile → List ℕ
inputs_on f = named_list inputs_name f.inputs ++ outputs_on f

abbrev edges_on : JobFile → List ℕ
edges_on f = shown_edges 0 f.edges ++ inputs_on f

-- what is left, piece by piece
module _ (text : List ℕ) (f : JobFile) where
  first : Leads text (shown_opening f ++ edges_on f) text (shown_text f)
  first = record { same = ap (λ (t : List ℕ). text ++ t) (sym (by_lists f)) }

  module _ (opening : List ℕ) (a : Puts (shown_opening f) text opening) where
    second : Leads opening (edges_on f) text (shown_text f)
    second = leads_on first (shown_opening f) (edges_on f) opening refl a

    module _ (edges : List ℕ) (b : Puts (shown_edges 0 f.edges) opening edges) where
      third : Leads edges (inputs_on f) text (shown_text f)
      third = leads_on second (shown_edges 0 f.edges) (inputs_on f) edges refl b

      module _ (inputs : List ℕ) (d : Puts (named_list inputs_name f.inputs) edges inputs) where
        fourth : Leads inputs (outputs_on f) text (shown_text f)
        fourth = leads_on third (named_list inputs_name f.inputs) (outputs_on f) inputs refl d

        module _ (outputs : List ℕ) (e : Puts (named_list outputs_name f.outputs) inputs outputs) where
          fifth : Leads outputs (measurements_on f) text (shown_text f)
          fifth = leads_on fourth (named_list outputs_name f.outputs) (measurements_on f) outputs refl e

          sixth : (measured : List ℕ) → Puts (shown_measurements f.measurements) outputs measured → Leads measured (codes "\n") text (shown_text f)
          sixth measured g = leads_on fifth (shown_measurements f.measurements) (codes "\n") measured refl g

opened : (c : After-push_opening) → Puts (shown_opening (job_held c.args.job.now)) c.args.text.now.items c.push_opening.new.text.items
opened c = rw c.from.ensures at c.push_opening.ensures

pub push_opening-requires : goal.push_opening-requires
push_opening-requires c = let f = job_held c.args.job.now in rw c.from.ensures (room_here (first c.args.text.now.items f) (shown_opening f) (edges_on f) refl c.requires.room)

pub push_edges-requires : goal.push_edges-requires
push_edges-requires c =
    let f = job_held c.args.job.now in
    let o = opened (goal.at.push_edges-requires c).After-push_opening in
    room_here (second c.args.text.now.items f _ o) (shown_edges 0 f.edges) (inputs_on f) refl c.requires.room

pub push_list-requires : goal.push_list-requires
push_list-requires c =
    let f = job_held c.args.job.now in
    let o = opened (goal.at.push_list-requires c).After-push_opening in
    room_here (third c.args.text.now.items f _ o _ c.push_edges.ensures) (named_list inputs_name f.inputs) (outputs_on f) refl c.requires.room

pub push_list-requires-2 : goal.push_list-requires-2
push_list-requires-2 c =
    let f = job_held c.args.job.now in
    let o = opened (goal.at.push_list-requires-2 c).After-push_opening in
    room_here (fourth c.args.text.now.items f _ o _ c.push_edges.ensures _ c.push_list.ensures) (named_list outputs_name f.outputs) (measurements_on f) refl c.requires.room

pub push_measurements-requires-clause-room : goal.push_measurements-requires-clause-room
push_measurements-requires-clause-room c =
    let f = job_held c.args.job.now in
    let o = opened (goal.at.push_measurements-requires-clause-room c).After-push_opening in
    room_here (fifth c.args.text.now.items f _ o _ c.push_edges.ensures _ c.push_list.ensures _ c.push_list-2.ensures) (shown_measurements f.measurements) (codes "\n") refl c.requires.room

pub push-requires : goal.push-requires
unfolding codes
push-requires c =
    let f = job_held c.args.job.now in
    let o = opened (goal.at.push-requires c).After-push_opening in
    let l = sixth c.args.text.now.items f _ o _ c.push_edges.ensures _ c.push_list.ensures _ c.push_list-2.ensures _ c.push_measurements.ensures in
    omega (arith, room_here l (codes "\n") [] (sym (append-nil (codes "\n"))) c.requires.room)

pub returns : goal.returns
unfolding codes
returns c =
    let f = job_held c.args.job.now in
    let o = opened (goal.at.returns c).After-push_opening in
    let l = sixth c.args.text.now.items f _ o _ c.push_edges.ensures _ c.push_list.ensures _ c.push_list-2.ensures _ c.push_measurements.ensures in
    leads_done (leads_on l (codes "\n") [] _ (sym (append-nil (codes "\n"))) c.push.ensures.items) refl
