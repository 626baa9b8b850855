use Rattle.std.proofs.Common.{◌+◌, ◌++◌, [], ◌∷◌, ℕ, List, get_or, drop, ap, arith, drop_of_length-le}
use Rattle.texts.proofs.Parting.{rest}
use Rattle.texts.proofs.Placed.{room_here, leads_on, leads_done}
use Rattle.texts.proofs.show.push_word.Goals as goal

pub loop-byte-init : goal.loop-byte-init
loop-byte-init c = record { same = ap (λ (l : List ℕ). c.args.text.now.items ++ l) c.as_bytes-byte-items.ensures.value }

pub push-requires : goal.push-requires
push-requires c =
    let l = c.loop-byte in
    let word = c.as_bytes-byte-items.result.now in
    omega (arith, room_here l.invariant (get_or word l.byte-index 0 ∷ []) (drop (l.byte-index + 1) word) (rest word l.byte-index c.loop-byte-test.true) c.requires)

pub loop-byte-preserved : goal.loop-byte-preserved
loop-byte-preserved c =
    let l = c.loop-byte in
    let word = c.as_bytes-byte-items.result.now in
    leads_on l.invariant (get_or word l.byte-index 0 ∷ []) (drop (l.byte-index + 1) word) _ (rest word l.byte-index c.loop-byte-test.true) c.push.ensures.items

pub returns : goal.returns
returns c = leads_done c.loop-byte.invariant (drop_of_length-le c.as_bytes-byte-items.result.now {i = c.loop-byte.byte-index} c.loop-byte-test.false)
