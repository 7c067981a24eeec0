use Rattle.reference_programs.proofs.Packing as packing
use Rattle.reference_programs.proofs.bits.bits_of_fields.Goals as goal

pub loop-index-preserved : goal.loop-index-preserved
loop-index-preserved c = record {
  so_far = packing.fields_next _ _ _ _ _ _ c.loop-index-test.true c.requires.fit c.in_ok-push_bits.ensures c.loop-index.invariant.so_far;
  fit = packing.fit-drop _ _ _ c.requires.fit;
}
