use Rattle.std.proofs.Common.{◌≡◌, length, arith, ap, ◌∙◌}
use Rattle.cocoon_num.specs.Packets.{cut, eights, packed, total}
use Rattle.reference_programs.specs.Widths.{ones}
use Rattle.reference_programs.proofs.Packing as packing
use Rattle.reference_programs.proofs.Entering as entering
use Rattle.reference_programs.proofs.packet.header_fields.Goals as goal

pub fields_of_bits-requires-clause-long : goal.fields_of_bits-requires-clause-long
fields_of_bits-requires-clause-long c =
    let long : length c.deref.result.now ≡ total (eights (length c.args.bytes.now)) = packing.bits_length (eights (length c.args.bytes.now)) c.args.bytes.now _ (c.deref.ensures.value ∙ c.in_ok-bits.ensures.bits) in
    omega (arith, long, packing.total-eights (length c.args.bytes.now), entering.whole _ _ c.requires.header c.requires.long)

pub fields_of_bits-requires-clause-fit : goal.fields_of_bits-requires-clause-fit
fields_of_bits-requires-clause-fit c = packing.bits_fit (eights (length c.args.bytes.now)) c.args.bytes.now _ (c.deref.ensures.value ∙ c.in_ok-bits.ensures.bits)

pub returns : goal.returns
returns c =
    let bytes = c.args.bytes.now in
    let same : packed (ones (length c.deref.result.now)) c.deref.result.now ≡ packed (eights (length bytes)) bytes = packing.bits_number (eights (length bytes)) bytes _ (packing.are_bytes bytes (λ k. omega (arith, c.type_inv.bytes k))) (c.deref.ensures.value ∙ c.in_ok-bits.ensures.bits) in
    c.from.ensures ∙ c.in_ok-fields.ensures ∙ ap (cut c.args.widths.now) same
