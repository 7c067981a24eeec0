-- Private clauses of `ways` cite it.
-- The ways through statements as the code counts them: numbers of 64 bits, which stop at the last.
use Rattle.cocoon_types.specs.Limits as spec
use Rattle.cocoon_resolve.specs.declared.ways.Ways.{Ways}

-- the ways that the code's stand for
abbrev pub ways_of : Ways → spec.Ways
ways_of w = record { ended = w.ended; going = w.going }

-- the ways as they are reported
abbrev pub reported_ways : spec.Ways → Ways
reported_ways w = record { ended = spec.reported w.ended; going = spec.reported w.going }
