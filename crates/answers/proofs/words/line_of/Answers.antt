use Rattle.std.proofs.Common.{rules, arith, ◌∙◌, ap, ◌++◌, ◌+◌}
use Rattle.answers.specs.Refusals.{refusal_of}
use Rattle.answers.specs.Message.{codes}
use Rattle.answers.proofs.Pieces.{told_left, line_begun, line_further, piece_fits, line_ended, feed_fits}
use Rattle.answers.proofs.Decimal.{decimal_as_std}
use Rattle.answers.proofs.words.line_of.Goals as goal

pub loop-piece-init : goal.loop-piece-init
unfolding codes
loop-piece-init c = line_begun (refusal_of c.args.q) c.told_of-piece-items.result.now c.format.result.now c.push_str-3.new.self.bytes (c.format.ensures.text ∙ decimal_as_std c.args.q.number (omega arith)) c.told_of-piece-items.ensures (search rules)

pub push_piece-requires : goal.push_piece-requires
push_piece-requires c = piece_fits (refusal_of c.args.q) _ _ _ c.loop-piece.invariant c.loop-piece-test.true _ (search (rules, c.well_formed), search rules, search rules)

pub loop-piece-preserved : goal.loop-piece-preserved
loop-piece-preserved c =
    ap (λ bytes. bytes ++ (told_left (refusal_of c.args.q) c.told_of-piece-items.result.now (c.loop-piece.piece-index + 1))) c.push_piece.ensures ∙ line_further (refusal_of c.args.q) _ _ _ c.loop-piece.invariant c.loop-piece-test.true _

pub push_str-requires-4 : goal.push_str-requires-4
push_str-requires-4 c = (omega arith, feed_fits (refusal_of c.args.q) c.told_of-piece-items.result.now c.loop-piece.piece-index _ c.loop-piece.invariant (search (rules, c.well_formed), search rules, search rules) (omega arith))

pub returns : goal.returns
returns c = c.push_str-4.ensures.bytes ∙ line_ended (refusal_of c.args.q) c.told_of-piece-items.result.now c.loop-piece.piece-index _ c.loop-piece.invariant (omega arith)
