use mathlib.Core.Path.{refl}
use Rattle.records.specs.Views.{job_held}
use Rattle.calls.proofs.Finding.{planes_loaded}
use Rattle.calls.proofs.LoadingEdges.{edges_fit}
use Rattle.calls.proofs.Loaded.{find_joined}
use borrow.Author.Rules.{rules}
use Rattle.calls.proofs.find.find_job.Goals as goal

pub load_graph-requires : goal.load_graph-requires
load_graph-requires c = let v = c.requires.0 in (refl, edges_fit c.args.job.now.n _ v.few v.edges_below)

pub load_measured-requires : goal.load_measured-requires
load_measured-requires c = (c.requires.0, refl)

pub over-requires : goal.over-requires
over-requires c = record {
  valid = c.requires.0;
  table = search (rules, c.graph-2-1.given);
  edges = c.load_graph.ensures;
  bytes = search (rules, c.measured-2-1.given);
  measurements = c.load_measured.ensures;
}

pub find_loaded-requires : goal.find_loaded-requires
find_loaded-requires c = record {
  work_fits = c.requires.1;
  measured_value = planes_loaded (job_held c.args.job.now) c.requires.0 _ _ c.over.ensures.job_value c.over.ensures.mode_value;
}

pub returns : goal.returns
returns c = find_joined _ _ _ _ _ _ _ c.find_loaded.ensures c.over.ensures.job_value c.over.ensures.mode_value
