use Rattle.std.proofs.Common.{refl, sym, ap, arith}
use Rattle.answers.specs.Refusals.{refusal_of}
use Rattle.answers.specs.Message.{words_in, codes, spelled, filled}
use Rattle.answers.proofs.Lines.{no_words}
use Rattle.answers.proofs.words.told_of.Goals as goal

pub returns-in-1 : goal.returns-in-1
unfolding words_in codes spelled filled
returns-in-1 c = rw (c.in-1.is) refl

pub returns-in-2 : goal.returns-in-2
unfolding words_in codes spelled filled
returns-in-2 c = rw (c.in-2.is) refl

pub returns-in-3 : goal.returns-in-3
unfolding words_in codes spelled filled
returns-in-3 c = rw (c.in-3.is) refl

pub returns-in-4 : goal.returns-in-4
unfolding words_in codes spelled filled
returns-in-4 c = rw (c.in-4.is) refl

pub returns-in-5 : goal.returns-in-5
unfolding words_in codes spelled filled
returns-in-5 c = rw (c.in-5.is) refl

pub returns-in-6 : goal.returns-in-6
unfolding words_in codes spelled filled
returns-in-6 c = rw (c.in-6.is) refl

pub returns-in-7 : goal.returns-in-7
unfolding words_in codes spelled filled
returns-in-7 c = rw (c.in-7.is) refl

pub returns-in-8 : goal.returns-in-8
unfolding words_in codes spelled filled
returns-in-8 c = rw (c.in-8.is) refl

pub returns-in-9 : goal.returns-in-9
unfolding words_in codes spelled filled
returns-in-9 c = rw (c.in-9.is) refl

pub returns-in-10 : goal.returns-in-10
unfolding words_in codes spelled filled
returns-in-10 c = rw (c.in-10.is) refl

pub returns-in-11 : goal.returns-in-11
unfolding words_in codes spelled filled
returns-in-11 c = rw (c.in-11.is) refl

pub returns-in-12 : goal.returns-in-12
unfolding words_in codes spelled filled
returns-in-12 c = rw (c.in-12.is) refl

pub returns-in-13 : goal.returns-in-13
unfolding words_in codes spelled filled
returns-in-13 c = rw (c.in-13.is) refl

pub returns-in-14 : goal.returns-in-14
unfolding words_in codes spelled filled
returns-in-14 c = rw (c.in-14.is) refl

pub returns-in-15 : goal.returns-in-15
unfolding words_in codes spelled filled
returns-in-15 c = rw (c.in-15.is) refl

pub returns-in-16 : goal.returns-in-16
unfolding words_in codes spelled filled
returns-in-16 c = rw (c.in-16.is) refl

pub returns-in-17 : goal.returns-in-17
unfolding words_in codes spelled filled
returns-in-17 c = rw (c.in-17.is) refl

pub returns-in-18 : goal.returns-in-18
unfolding words_in codes spelled filled
returns-in-18 c = rw (c.in-18.is) refl

pub returns-in-19 : goal.returns-in-19
unfolding words_in codes spelled filled
returns-in-19 c = rw (c.in-19.is) refl

pub returns-in-20 : goal.returns-in-20
unfolding words_in codes spelled filled
returns-in-20 c = rw (c.in-20.is) refl

pub returns-in-21 : goal.returns-in-21
unfolding words_in codes spelled filled
returns-in-21 c = rw (c.in-21.is) refl

pub returns-in-22 : goal.returns-in-22
unfolding words_in codes spelled filled
returns-in-22 c = rw (c.in-22.is) refl

pub returns-in-23 : goal.returns-in-23
unfolding words_in codes spelled filled
returns-in-23 c = rw (c.in-23.is) refl

pub returns-in-24 : goal.returns-in-24
unfolding words_in codes spelled filled
returns-in-24 c = rw (c.in-24.is) refl

pub returns-in_default : goal.returns-in_default
unfolding codes spelled filled
returns-in_default c = sym (ap (λ words. filled (refusal_of c.args.q) (codes words)) (no_words c.args.q.number (λ some. omega arith)))
