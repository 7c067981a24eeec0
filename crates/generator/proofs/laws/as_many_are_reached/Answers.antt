use Rattle.generator.specs.Packets.{bytes, source}
use Rattle.generator.specs.Arriving.{Arrives, IsReached, most_visits}
use Rattle.generator.proofs.Counts.{same}
use Rattle.generator.proofs.laws.as_many_are_reached.Goals as goal

pub returns : goal.returns
returns c = λ net design defs exact hosts packets count h.
    same (Arrives net hosts) (IsReached design defs hosts) (λ k. (
      (λ (a : Arrives net hosts k). record { choices = a.choices; host = a.host; sent = a.sent; goes = (exact (source hosts k) (bytes hosts k) a.choices most_visits a.host a.sent).0 a.goes }),
      (λ (r : IsReached design defs hosts k). record { choices = r.choices; host = r.host; sent = r.sent; goes = (exact (source hosts k) (bytes hosts k) r.choices most_visits r.host r.sent).1 r.goes }),
    )) packets count h
