-- A trail that becomes longer.
use Rattle.std.proofs.Common.{◌≡◌, ℕ, ◌+◌, ◌<◌, pos, [], ◌++◌, length, sym, ap, ◌∙◌, arith}
use Rattle.std.proofs.lemmas.List.{append-nil, append_assoc, get_or_append_left, length-append}
use Rattle.cnf_core.specs.Trails.{literal_at}
use Rattle.cnf_core.specs.TrailViews.{not_true, trues}
use Rattle.cdcl.specs.States.{IsLonger}
use Rattle.cdcl.specs.declared.search.Search.{Search}

pub longer-none : (old new : Search) → trues new.trail ≡ trues old.trail → not_true new.trail ≡ not_true old.trail → IsLonger old new
longer-none old new e k = record { more = []; trues = e ∙ sym (append-nil (trues old.trail)); fewer = omega (arith, k) }

pub longer-more : (first second third : Search) → IsLonger first second → IsLonger second third → IsLonger first third
longer-more first second third h k = record {
  more = h.more ++ k.more;
  trues = k.trues ∙ ap (λ ts. ts ++ k.more) h.trues ∙ append_assoc (trues first.trail) h.more k.more;
  fewer = omega (arith, h.fewer, k.fewer, length-append h.more k.more);
}

pub longer-at : (old new : Search) (p : ℕ) → p < length (trues old.trail) → IsLonger old new → literal_at (trues new.trail) p ≡ literal_at (trues old.trail) p
longer-at old new p lt h = ap (λ ts. literal_at ts p) h.trues ∙ get_or_append_left (trues old.trail) h.more (pos 0) p lt

pub longer-length : (old new : Search) (h : IsLonger old new) → length (trues new.trail) ≡ length (trues old.trail) + length h.more
longer-length old new h = ap length h.trues ∙ length-append (trues old.trail) h.more
