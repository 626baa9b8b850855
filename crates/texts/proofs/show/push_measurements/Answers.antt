use Rattle.std.proofs.Common.{◌+◌, ◌++◌, drop, get_or, ap}
use Rattle.texts.specs.Views.{line_for}
use Rattle.texts.specs.declared.names.Name.TheVariants.{Nodes}
use Rattle.texts.proofs.Naming.{all_names}
use Rattle.texts.proofs.Placed.{room_here, leads_on, leads_done}
use Rattle.texts.proofs.Showing.{lines_for, lines_all, lines_step, lines_end}
use Rattle.texts.proofs.show.push_measurements.Goals as goal

pub loop-name-init : goal.loop-name-init
loop-name-init c = record { same = ap (λ t. c.args.text.now.items ++ t) (lines_all c.args.measurements.now) }

pub push_measurement-requires-clause-room : goal.push_measurement-requires-clause-room
push_measurement-requires-clause-room c =
    let i = c.loop-name.name-index in
    let ms = c.args.measurements.now in
    room_here c.loop-name.invariant (line_for (get_or all_names i Nodes) ms) (lines_for (drop (i + 1) all_names) ms) (lines_step all_names i Nodes ms c.loop-name-test.true) c.requires.room

pub loop-name-preserved : goal.loop-name-preserved
loop-name-preserved c =
    let i = c.loop-name.name-index in
    let ms = c.args.measurements.now in
    leads_on c.loop-name.invariant (line_for (get_or all_names i Nodes) ms) (lines_for (drop (i + 1) all_names) ms) _ (lines_step all_names i Nodes ms c.loop-name-test.true) c.push_measurement.ensures

pub returns : goal.returns
returns c = leads_done c.loop-name.invariant (lines_end all_names c.loop-name.name-index c.args.measurements.now c.loop-name-test.false)
