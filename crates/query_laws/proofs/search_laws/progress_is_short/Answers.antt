use Rattle.query_laws.proofs.Counting.{is-short}
use Rattle.query_laws.proofs.search_laws.progress_is_short.Goals as goal

pub returns : goal.returns
returns c = λ d level formula instances p. is-short d level (c.earlier_levels_come_first.ensures d level) instances p.fit p.different
