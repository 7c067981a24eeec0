use Rattle.std.proofs.Common.{◌≡◌, length, ◌/◌, ap, sym, ◌∙◌}
use Rattle.cocoon_num.specs.Packets.{cut, eights, packed, total, byte_count}
use Rattle.reference_programs.specs.Widths.{ones}
use Rattle.reference_programs.proofs.Packing as packing
use Rattle.reference_programs.proofs.Entering as entering
use Rattle.std.proofs.lemmas.Result.{IfOk-weaker}
use Rattle.reference_programs.proofs.packet.header_bytes.Goals as goal

pub bytes_of_bits-requires-clause-long : goal.bytes_of_bits-requires-clause-long
bytes_of_bits-requires-clause-long c =
    let long : length c.deref.result.now ≡ total c.args.widths.now = packing.bits_length c.args.widths.now c.args.fields.now _ (c.deref.ensures.value ∙ c.in_ok-bits.ensures) in
    let count : c.len-count.result ≡ length c.deref.result.now = c.len-count.ensures ∙ sym c.deref.ensures.len in
    rw count (entering.whole_bits c.args.widths.now _ c.requires.header long)

pub bytes_of_bits-requires-clause-fit : goal.bytes_of_bits-requires-clause-fit
bytes_of_bits-requires-clause-fit c = packing.bits_fit c.args.widths.now c.args.fields.now _ (c.deref.ensures.value ∙ c.in_ok-bits.ensures)

pub returns : goal.returns
returns c =
    let bits = c.deref.result.now in
    let ws = c.args.widths.now in
    let same : packed (ones (length bits)) bits ≡ packed ws c.args.fields.now = packing.bits_number ws c.args.fields.now _ c.requires.fit (c.deref.ensures.value ∙ c.in_ok-bits.ensures) in
    let long : length bits ≡ total ws = packing.bits_length ws c.args.fields.now _ (c.deref.ensures.value ∙ c.in_ok-bits.ensures) in
    let count : c.len-count.result ≡ total ws = c.len-count.ensures ∙ sym c.deref.ensures.len ∙ long in
    IfOk-weaker c.bytes_of_bits.result _ _ (λ v h. h ∙ ap (λ n. cut (eights n) (packed (ones (length bits)) bits)) (ap (λ n. n / 8) count) ∙ ap (cut (eights (byte_count ws))) same) c.bytes_of_bits.ensures
