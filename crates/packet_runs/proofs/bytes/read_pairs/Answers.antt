use Rattle.std.proofs.Common.{◌∙◌, ap, sym, option_map, ◌++◌}
use Rattle.packet_runs.specs.Packets.{pairs_of}
use Rattle.packet_runs.proofs.Pairs.{pair_read}
use Rattle.packet_runs.proofs.bytes.read_pairs.Goals as goal

pub loop-rest-preserved : goal.loop-rest-preserved
loop-rest-preserved c =
    ap (λ ds. option_map (λ bs. c.push.new.self.items ++ bs) (pairs_of ds)) c.behind_pair-rest.ensures
    ∙ pair_read c.loop-rest.rest.now _ _ c.in-Some.byte c.loop-rest.bytes.items c.push.new.self.items _ c.loop-rest-test.true (sym c.byte_of.ensures ∙ c.in-Some.is) c.in_ok-push-in-Some.ensures.items c.loop-rest.invariant
