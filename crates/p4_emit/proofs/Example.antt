-- The text of the program that stands for switch 1 of the design m, byte by byte.
use Rattle.std.proofs.Common.{◌≡◌, ℕ, List, refl, subst}
use Rattle.std.specs.Fmt.{digits}
use Rattle.p4_emit.specs.ExampleMP4.{m_program, m_p4}
use Rattle.p4_ir.specs.P4Reads.{P4Reads}
use Rattle.p4_emit.proofs.WellKinded.{printed_reads}
use Rattle.p4_emit.specs.Printed.{fixed, header_field_text, header_text, member_text, meta_member_text, extract_text, deparse_text, heads_text, ingress_text, egress_text, key_text, keys_text, action_text, default_text, printed, verdict_text, egress_port_text, if_text, else_text, end_text}

pub m_is_printed : printed m_program ≡ m_p4
unfolding digits fixed header_field_text header_text member_text meta_member_text extract_text deparse_text heads_text ingress_text egress_text key_text keys_text action_text default_text verdict_text egress_port_text if_text else_text end_text
m_is_printed = refl

-- it is well kinded and not too deep, so these bytes read as the program
pub m_reads : P4Reads m_p4 m_program
m_reads = let read : P4Reads (printed m_program) m_program = printed_reads m_program refl in subst (λ (t : List ℕ). P4Reads t m_program) m_is_printed read
