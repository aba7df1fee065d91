use Rattle.proxy_core.proofs.Fitting as fitting
use Rattle.proxy_core.proofs.laws.notes_fit_edges.Goals as goal

pub returns : goal.returns
returns c = fitting.notes_fit_edges
