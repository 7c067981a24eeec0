use Rattle.std.proofs.Common.{◌≡◌, ◌≤◌, drop, length, map}
use Rattle.serde_json.specs.View.{members_view}
use Rattle.json_forms.specs.Forms.{are_keys}
use Rattle.json_forms.proofs.from_json.are_keys.Given as goal

abbrev pub invariant-loop-key : goal.invariant-loop-key
invariant-loop-key l =
    (l.index ≤ length l.keys) × (are_keys (map (λ k. k.now) (drop l.index l.keys)) (members_view l.key-iterator) ≡ are_keys (map (λ k. k.now) l.keys) (members_view l.fn.object.entries))
