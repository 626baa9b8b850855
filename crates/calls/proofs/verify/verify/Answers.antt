use mathlib.Core.Path.{refl, ◌∙◌}
use mathlib.Core.List.{[]}
use Rattle.records.specs.Records.{written, kind_accepted}
use Rattle.calls.proofs.Finding.{put_is}
use Rattle.calls.proofs.LoadingFiles.{call_passed}
use Rattle.calls.proofs.verify.verify.Goals as goal

pub returns : goal.returns
returns c = let a = c.args in
    put_is (written kind_accepted []) a.out.now _ _ [] [] c.write_bare.ensures.result_value c.write_bare.ensures.out_after refl
    ∙ call_passed a.file.now a.out.now c.verify_file.result c.verify_file.ensures c.in_ok-verify_file.was
