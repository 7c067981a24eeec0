use Rattle.std.proofs.Common.{◌∙◌, [], ◌∷◌, map, rules, subst, sym, ap}
use Rattle.net_bundle.specs.NetFileOf.{file_made, made_of}
use Rattle.net_bundle.specs.Writing.{AllFit, NotWritten, with_files}
use Rattle.net_bundle.proofs.InOrder.{got, fits_one, put_here, stops}
use Rattle.net_bundle.proofs.write.write_files.Goals as goal

pub write_file-requires : goal.write_file-requires
write_file-requires g c = record {
  fit = subst (λ b. AllFit (file_made c.made-item.result.file b ∷ [])) (sym c.deref.ensures.value)
      (fits_one (map made_of c.args.files.now) c.loop-made.made-index (made_of c.made-item.result) (got c.args.files.now c.loop-made.made-index c.made-item.result c.loop-made-test.true c.made-item.is) c.requires.fit);
}

pub returns-in_err-write_file-clause-refused : goal.returns-in_err-write_file-clause-refused
returns-in_err-write_file-clause-refused g c =
    let refused : NotWritten c.args.out.now (map made_of c.args.files.now) (g.F.Folder.content c.args.folder.now) (g.F.Folder.content c.write_file.new.folder) c.in_err-write_file.field-0.0 =
    stops c.args.out.now (map made_of c.args.files.now) c.loop-made.made-index (made_of c.made-item.result) _ _ _ _ (got c.args.files.now c.loop-made.made-index c.made-item.result c.loop-made-test.true c.made-item.is)
    c.requires.fit c.loop-made.invariant.content
    (subst (λ b. NotWritten c.args.out.now (file_made c.made-item.result.file b ∷ []) (g.F.Folder.content c.loop-made.folder) (g.F.Folder.content c.write_file.new.folder) c.in_err-write_file.field-0.0) c.deref.ensures.value
    c.in_err-write_file.ensures.refused) in
    search rules

pub loop-made-preserved : goal.loop-made-preserved
loop-made-preserved g c = record {
  content = put_here c.args.out.now (map made_of c.args.files.now) c.loop-made.made-index (made_of c.made-item.result) _ _ _ (got c.args.files.now c.loop-made.made-index c.made-item.result c.loop-made-test.true c.made-item.is)
      c.loop-made.invariant.content
      (c.in_ok-write_file.ensures.written ∙ ap (λ b. with_files c.args.out.now (file_made c.made-item.result.file b ∷ []) (g.F.Folder.content c.loop-made.folder)) c.deref.ensures.value);
  reads = c.write_file.ensures.reads ∙ c.loop-made.invariant.reads;
  writes = c.in_ok-write_file.ensures.counted ∙ c.loop-made.invariant.writes;
}
