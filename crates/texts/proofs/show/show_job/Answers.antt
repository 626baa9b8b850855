use Rattle.std.proofs.Common.{◌++◌, [], ℕ, List, length, arith, ap, ap₂, ◌∙◌}
use Rattle.answers.specs.Answer.{Answer}
use Rattle.records.specs.Views.{job_held}
use Rattle.records.proofs.Encoding.{job_asked}
use Rattle.demands.specs.Calls.{Outcome, put}
use Rattle.texts.specs.Shown.{shown_text}
use Rattle.texts.proofs.Showing.{text_most}
use Rattle.texts.proofs.show.show_job.Goals as goal

pub push_job-requires : goal.push_job-requires
push_job-requires c = record {
  valid = job_asked c.args.file.now (job_held c.args.job.now) c.requires.0;
  room = omega (arith, text_most c.args.file.now (job_held c.args.job.now) c.requires.0 c.requires.1, ap length c.new-text.ensures);
}

abbrev made : (work : List ℕ) → Answer ℕ → (out : List ℕ) → Outcome
made work answer out = record { answer = answer; work = work; out = out }

pub returns : goal.returns
unfolding put
returns c =
    let shown = shown_text (job_held c.args.job.now) in
    let bytes = c.as_slice-bytes.ensures.value ∙ c.push_job.ensures ∙ ap (λ (t : List ℕ). t ++ shown) c.new-text.ensures in
    ap₂ (made []) c.write.ensures.result_value c.write.ensures.out_after ∙ ap (λ (t : List ℕ). put [] t c.args.out.now) bytes
