use Rattle.std.proofs.Common.{◌≡◌, ◌+◌, ◌<◌, ◌∙◌, ◌++◌, ◌∷◌, [], ap, arith, get_or, length, set, subst, sym}
use Rattle.std.proofs.Math.ListN.{length-set}
use Rattle.std.proofs.lemmas.List.{get_or_read, length_push}
use Rattle.cnf_core.specs.Literals.{index_of}
use Rattle.proof_check.specs.Registering.{IsLast}
use Rattle.proof_check.proofs.Chaining.{heads-more, links-more}
use Rattle.proof_check.proofs.chains.Chains.add.Goals as goal

pub returns : goal.returns
returns c = λ vars tops r.
    let hs = c.args.self.now.heads.items in
    let ls = c.args.self.now.links.items in
    let f = index_of c.args.top.number in
    let h = c.index.result.now in
    let within : c.index-at.result < length hs = omega (arith, c.index-at.ensures, c.requires) in
    let value : h ≡ get_or hs f 0 = get_or_read hs c.index-at.result h within c.index.ensures 0 ∙ ap (λ i. get_or hs i 0) c.index-at.ensures in
    let count : c.len.result ≡ length tops + 1 = omega (arith, c.len.ensures, c.in_ok-push.ensures.len, c.args.self.now.links.ok.0, r.linked) in
    let pushed = c.in_ok-push.ensures.items in
    record {
      indexed = length-set hs c.index-at.result c.len.result ∙ r.indexed;
      linked = ap length pushed ∙ length_push ls h ∙ ap (λ n. n + 1) r.linked ∙ sym (length_push tops f);
      heads = λ i. subst (λ k. IsLast (tops ++ f ∷ []) i (length (tops ++ f ∷ [])) (get_or (set hs k c.len.result) i 0)) (sym c.index-at.ensures)
          (heads-more tops hs f c.len.result c.requires r.heads count i);
      links = λ k lt. subst (λ xs. IsLast (tops ++ f ∷ []) (get_or (tops ++ f ∷ []) k 0) k (get_or xs k 0)) (sym pushed)
          (links-more tops ls f h r.linked (subst (IsLast tops f (length tops)) (sym value) (r.heads f)) r.links k lt);
    }
