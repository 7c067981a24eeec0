use Rattle.std.proofs.Common.{length, map, take}
use Rattle.p4_texts.specs.Written.{MemberText}
use Rattle.p4_texts.specs.TreeOf.{member_of}
use Rattle.p4_resolve.specs.Scopes.{member_names}
use Rattle.p4_resolve.proofs.CountFacts.{room, taken_twice}
use Rattle.p4_resolve.proofs.scope.names_of_members.Goals as goal

pub add-requires : goal.add-requires
add-requires c =
    let members = c.args.members.now in
    let i = c.loop-member.member-index in
    record { room = room c.loop-member.names (member_names (map member_of (take i members))) i (length members) c.loop-member.invariant (taken_twice (λ (m : MemberText). m.name) member_of members i c.loop-member-test.true) c.loop-member-test.true c.requires.few }
