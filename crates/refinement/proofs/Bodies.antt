-- What a role's body can send, it sends with choices that are tried.
use Rattle.std.proofs.Common.{◌≡◌, ℕ, ◌^◌, ◌==◌, List, [], ◌∷◌, ◌++◌, map, length, Bool, true, false, Option, Some, None, if◌then◌else◌, option_map, refl, sym, ap, subst, ◌∙◌}
use Rattle.std.specs.Prelude.{flat_map}
use Rattle.std.proofs.lemmas.Bool.{ltb-true}
use Rattle.cocoon_num.specs.Lists.{no_repeats}
use Rattle.cocoon_num.specs.PacketForms.{PacketFits}
use Rattle.cocoon_num.specs.Packets.{Packet}
use Rattle.cocoon_num.specs.Tree.{Block, Design, field, HeaderDecl, Param, Role}
use Rattle.cocoon_num.specs.Values.{fits_width, number}
use Rattle.cocoon_num.specs.declared.fun_table.FunTable.{FunTable}
use Rattle.cocoon_resolve.specs.Readers.{reads_back}
use Rattle.cocoon_types.specs.Design.{functions, layout, role_at}
use Rattle.cocoon_types.specs.ReadBack.{FieldValue, first_fields, hidden_in}
use Rattle.cocoon_types.specs.Runs.{DoesAll, Go, Loc, sends}
use Rattle.cocoon_types.specs.Val.{bind, bound, Env}
use Rattle.refinement.specs.Indices.{block_indices}
use Rattle.role_values.specs.ByTables.{apply_by, earlier}
use Rattle.role_values.specs.Worlds.{world_by}
use Rattle.refinement.specs.Sending.{AreTried, flat}
use Rattle.refinement.specs.Trails.{FieldMark, finds_in, first_marks, header_marks}
use Rattle.refinement.proofs.Complete.{sends_so, start_of}
use Rattle.refinement.proofs.Marked.{field_mark, marks_of}
use Rattle.refinement.proofs.Named.{AreNamed, none_bound}
use Rattle.sound_types.specs.Matching.{Binds}
use Rattle.sound_types.specs.Soundness.{IsSound}
use Rattle.sound_types.specs.WellTyped.{IsTyped, scope_at}

-- ---- where a body begins

marked_parts : (xs ys : List FieldValue) → map field_mark (xs ++ ys) ≡ map field_mark xs ++ map field_mark ys
marked_parts [] ys = refl
marked_parts (x ∷ xs) ys = ap (λ zs. field_mark x ∷ zs) (marked_parts xs ys)

header_marked : (h : HeaderDecl) (ps : List Param) → map field_mark (map (λ (f : Param). record { header = h.name.text; field = f.name.text; value = field 0 h.name f.name }) ps)
    ≡ map (λ (f : Param). record { header = h.name.text; field = f.name.text; choice = None }) ps
header_marked h [] = refl
header_marked h (p ∷ ps) = ap (λ zs. record { header = h.name.text; field = p.name.text; choice = None } ∷ zs) (header_marked h ps)

fields_marked : (hs : List HeaderDecl) → map field_mark (first_fields hs) ≡ flat_map header_marks hs
fields_marked [] = refl
fields_marked (h ∷ hs) =
    marked_parts (map (λ (f : Param). record { header = h.name.text; field = f.name.text; value = field 0 h.name f.name }) h.fields) (first_fields hs)
    ∙ (λ i. header_marked h h.fields i ++ fields_marked hs i)

start_marked : (d : Design) → marks_of (start_of d) ≡ first_marks d.headers
start_marked d = ap (λ (fs : List FieldMark). record { choices = []; vars = []; fields = fs }) (fields_marked d.headers)

bind_by : (b : Bool) (p : Param) (n : ℕ) (o : Option Env) (ps : List Param) (env : Env) → fits_width p.width n ≡ b → ((x : Env) → o ≡ Some x → Binds ps x)
    → (if b then option_map (bound p.name.text (number p.width n)) o else None) ≡ Some env → Binds (p ∷ ps) env
bind_by false p n o ps env q h e = absurd (cc)
bind_by true p n None ps env q h e = absurd (cc)
bind_by true p n (Some x) ps env q h e =
    let same : bound p.name.text (number p.width n) x ≡ env = cc in
    subst (Binds (p ∷ ps)) same (refl, (refl, ltb-true n (2 ^ p.width) q), h x refl)

bind_binds : (ps : List Param) (ns : List ℕ) (env : Env) → bind ps ns ≡ Some env → Binds ps env
bind_binds [] [] env e = let same : [] ≡ env = cc in subst (Binds []) same tt
bind_binds [] (n ∷ ns) env e = absurd (cc)
bind_binds (p ∷ ps) [] env e = absurd (cc)
bind_binds (p ∷ ps) (n ∷ ns) env e = bind_by (fits_width p.width n) p n (bind ps ns) ps env refl (λ x q. bind_binds ps ns x q) e

shown : (d : Design) (r : Role) (b : Block) → r.body ≡ Some b → reads_back d r ≡ true → (length (hidden_in d b) == 0) ≡ true
shown d r b e h = sym (ap (λ (o : Option Block). elim o as (λ _. Bool) [ None ↦ true | Some x ↦ length (hidden_in d x) == 0 ]) e) ∙ h

-- ---- bodies

pub sent_when_tried : (d : Design) (tables : List (Option FunTable)) (level : ℕ) → IsSound d (world_by tables level d).context
    → (from to : Loc) (packet sent : Packet) (r : Role) (b : Block) → role_at level d from.role ≡ Some r → r.body ≡ Some b
    → IsTyped (scope_at d level r.params true) b → no_repeats (block_indices b) ≡ true → AreNamed r.params
    → reads_back d r ≡ true → PacketFits (layout d) packet → (cs : List ℕ) → Go (world_by tables level d) from packet cs to sent
    → (choices : List ℕ) × Go (world_by tables level d) from packet choices to sent × AreTried d b to sent choices
sent_when_tried d tables level sound from to packet sent r b at body typed once named back fits cs g =
    let same : g.role ≡ r = some_same (sym g.role_is ∙ at) in
    let body_same : g.body ≡ b = some_same (sym g.body_is ∙ ap (λ (x : Role). x.body) same ∙ body) in
    let env_is : bind r.params from.values ≡ Some g.env = sym (ap (λ (x : Role). bind x.params from.values) same) ∙ g.env_is in
    let does = subst (λ x. DoesAll (world_by tables level d) x g.env packet cs (sends to sent)) body_same g.does in
    let t = sends_so d (apply_by tables (earlier d (length (functions d)))) (role_at level d) sound b (scope_at d level r.params true) refl typed once (shown d r b body back)
    g.env (bind_binds r.params from.values g.env env_is) (none_bound r.params from.values g.env named env_is) packet fits cs to sent does in (
      t.0,
      record { role = r; body = b; env = g.env; stands = g.stands; role_is = at; body_is = body; env_is = env_is; does = t.1 },
      λ u h. subst (λ m. finds_in to.values (flat sent) b (λ x. false) u m ≡ true) (start_marked d) (t.2 u h),
    )
  where
    some_same : {A : Type 0} {x y : A} → Some x ≡ Some y → x ≡ y
    some_same e = cc
