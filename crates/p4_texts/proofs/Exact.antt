-- What the plain reader says of a text: it takes all tokens exactly where they are those of a tree; where it is stuck,
-- the tokens before begin some text, and with the one that is stuck they begin none.
use Rattle.std.specs.Prelude.{◌≡◌, ℕ, zero, suc, ◌+◌, true, List, [], ◌∷◌, ◌++◌, length, Some, None, codes, refl}
use Rattle.std.proofs.Common.{sym, ◌∙◌, ap, subst, arith, append_assoc}
use Rattle.cocoon_num.specs.Values.{not_}
use Rattle.cocoon_num.specs.Tokens.{Kind, a_name, mark}
use Rattle.p4_ir.specs.P4Text.{architecture}
use Rattle.p4_texts.specs.Machine.{Follow, to_semicolon, to_close, to_operator, to_colon, Goal, exactly, any_name, any_plain, any_literal, an_expr, after_expr, opened, stmts, stmts_or_else, after_else, after_first, dotted, after_meta, after_header, fields, headers, tables, first_key, first_match, keys, Goals, Leaves, fixed, takes, stuck, whole_text}
use Rattle.p4_texts.specs.Written.{w_port, w_unary, w_apply, w_set_meta, w_set_field, w_done, w_then, no_keys, HeaderText, MemberText, RestText, ProgramText, text_tokens, Lines, P4TextAt, BeginsP4}
use Rattle.p4_texts.proofs.Spells.{After, goes_on, Tree, Trees, spells, split, fixed_spells, with_sides}
use Rattle.p4_texts.proofs.SoundParts.{goal_leads}
use Rattle.p4_texts.proofs.Complete.{text_pass}

-- ---- each goal can be met

abbrev copies : {A : Type 0} → ℕ → A → List A
copies zero x = []
copies (suc n) x = x ∷ copies n x

as_many : {A : Type 0} (n : ℕ) (x : A) → length (copies n x) ≡ n
as_many zero x = refl
as_many (suc n) x = ap suc (as_many n x)

abbrev some_after : (f : Follow) → After f
some_after to_semicolon = tt
some_after to_close = tt
some_after to_colon = tt
some_after to_operator = with_sides w_port w_port

abbrev some_rest : ℕ → RestText
some_rest n = record {
  members = copies n (record { header = []; name = [] });
  meta = [];
  extracts = copies n [];
  ingress = record { tables = []; body = w_done };
  egress = record { tables = []; body = w_done };
  emits = copies n [];
}

some_lines : (n : ℕ) → Lines (length {A = HeaderText} [] + n) (some_rest n)
some_lines n =
    let same : n ≡ length {A = HeaderText} [] + n = omega arith in
    let none : List ℕ = [] in
    let member : MemberText = record { header = []; name = [] } in
    record { members = as_many n member ∙ same; extracts = as_many n none ∙ same; emits = as_many n none ∙ same }

abbrev some_tree : (g : Goal) → Tree g
some_tree (exactly k) = tt
some_tree any_name = []
some_tree any_plain = 0
some_tree any_literal = record { width = 1; n = 0 }
some_tree (an_expr f) = record { expr = w_port; then = some_after f }
some_tree (after_expr f) = record { slices = []; then = some_after f }
some_tree opened = record { whole = w_unary not_ w_port; part = λ ks. mark (codes "!") ∷ a_name (codes "port") ∷ mark (codes ")") ∷ ks; is = λ ks. refl }
some_tree stmts = w_done
some_tree stmts_or_else = goes_on w_done
some_tree after_else = record { whole = goes_on (w_then (w_apply (codes "else")) w_done); part = λ ks. mark (codes ".") ∷ a_name (codes "apply") ∷ mark (codes "(") ∷ mark (codes ")") ∷ mark (codes ";") ∷ mark (codes "}") ∷ ks; is = λ ks. refl }
some_tree (after_first x) = record { whole = w_then (w_apply x) w_done; part = λ ks. mark (codes ".") ∷ a_name (codes "apply") ∷ mark (codes "(") ∷ mark (codes ")") ∷ mark (codes ";") ∷ mark (codes "}") ∷ ks; is = λ ks. refl }
some_tree (dotted x) = record { whole = w_then (w_apply x) w_done; part = λ ks. a_name (codes "apply") ∷ mark (codes "(") ∷ mark (codes ")") ∷ mark (codes ";") ∷ mark (codes "}") ∷ ks; is = λ ks. refl }
some_tree (after_meta y) = record { whole = w_then (w_set_meta y w_port) w_done; part = λ ks. mark (codes "=") ∷ a_name (codes "port") ∷ mark (codes ";") ∷ mark (codes "}") ∷ ks; is = λ ks. refl }
some_tree (after_header y) = record { whole = w_then (w_set_field y [] w_port) w_done; part = λ ks. mark (codes ".") ∷ a_name [] ∷ mark (codes "=") ∷ a_name (codes "port") ∷ mark (codes ";") ∷ mark (codes "}") ∷ ks; is = λ ks. refl }
some_tree fields = []
some_tree (headers n) = record { headers = []; rest = some_rest n; lines = some_lines n }
some_tree tables = []
some_tree first_key = no_keys
some_tree first_match = record { exact = true; names = [] }
some_tree (keys b) = []

abbrev some_trees : (gs : Goals) → Trees gs
some_trees [] = tt
some_trees (g ∷ gs) = (some_tree g, some_trees gs)

-- ---- the tokens that are taken

pub record Taken (gs : Goals) (ks : List Kind) : Type 0 where
  pub trees : Trees gs
  pub is : spells gs trees [] ≡ ks

pub taken : (gs : Goals) (ks : List Kind) → stuck gs ks ≡ None → Taken gs ks
taken [] [] h = record { trees = tt; is = refl }
taken (g ∷ gs) [] h = absurd cc
taken [] (k ∷ ks) h = absurd cc
taken (g ∷ gs) (k ∷ ks) h = by (takes g k) refl (λ more. taken (more ++ gs) ks)
  where
    by : (l : Leaves) → takes g k ≡ l → ((more : Goals) → stuck (more ++ gs) ks ≡ None → Taken (more ++ gs) ks) → Taken (g ∷ gs) (k ∷ ks)
    by None e rest = let wrong : Some (k ∷ ks) ≡ None = rw e at h in absurd cc
    by (Some more) e rest =
        let r = rest more (rw e at h) in
        let s = split more gs r.trees in
        let m = goal_leads g k more e s.first in
        record { trees = (m.tree, s.second); is = m.is (spells gs s.second []) ∙ ap (λ z. k ∷ z) (sym (s.is []) ∙ r.is) }

-- those before the one that is stuck begin what can be met, and with it nothing is met
pub record Stops (gs : Goals) (ks bad : List Kind) : Type 0 where
  pub before : List Kind
  pub is : ks ≡ before ++ bad
  pub ends : List Kind
  pub trees : Trees gs
  pub begins : spells gs trees [] ≡ before ++ ends
  pub stays : (k : Kind) (rest w : List Kind) → bad ≡ k ∷ rest → stuck gs (before ++ (k ∷ w)) ≡ Some (k ∷ w)

pub stops : (gs : Goals) (ks bad : List Kind) → stuck gs ks ≡ Some bad → Stops gs ks bad
stops [] [] bad h = absurd cc
stops (g ∷ gs) [] bad h =
    let e : [] ≡ bad = cc in
    record { before = []; is = e; ends = spells (g ∷ gs) (some_trees (g ∷ gs)) []; trees = some_trees (g ∷ gs); begins = refl; stays = λ k rest w f. absurd cc }
stops [] (k ∷ ks) bad h =
    let e : k ∷ ks ≡ bad = cc in
    record { before = []; is = e; ends = []; trees = tt; begins = refl; stays = λ j rest w f. refl }
stops (g ∷ gs) (k ∷ ks) bad h = by (takes g k) refl (λ more. stops (more ++ gs) ks bad)
  where
    by : (l : Leaves) → takes g k ≡ l → ((more : Goals) → stuck (more ++ gs) ks ≡ Some bad → Stops (more ++ gs) ks bad) → Stops (g ∷ gs) (k ∷ ks) bad
    by None e rest =
        let found : Some (k ∷ ks) ≡ Some bad = rw e at h in
        let same : k ∷ ks ≡ bad = cc in
        record {
          before = [];
          is = same;
          ends = spells (g ∷ gs) (some_trees (g ∷ gs)) [];
          trees = some_trees (g ∷ gs);
          begins = refl;
          stays = λ j others w f. let first : k ≡ j = cc in subst (λ i. stuck (g ∷ gs) (i ∷ w) ≡ Some (i ∷ w)) first (rw e refl);
        }
    by (Some more) e rest =
        let r = rest more (rw e at h) in
        let s = split more gs r.trees in
        let m = goal_leads g k more e s.first in
        record {
          before = k ∷ r.before;
          is = ap (λ z. k ∷ z) r.is;
          ends = r.ends;
          trees = (m.tree, s.second);
          begins = m.is (spells gs s.second []) ∙ ap (λ z. k ∷ z) (sym (s.is []) ∙ r.begins);
          stays = λ j others w f. rw e (r.stays j others w f);
        }

-- ---- whole texts

-- the text that the trees of all goals are
record TextOf (ts : Trees whole_text) : Type 0 where
  text : ProgramText
  lines : Lines (length text.headers) text.rest
  is : spells whole_text ts [] ≡ text_tokens text

text_of : (ts : Trees whole_text) → TextOf ts
text_of ts =
    let s = split (fixed architecture) (headers 0 ∷ []) ts in
    let t = s.second.0 in
    let none : length t.headers + 0 ≡ length t.headers = omega arith in
    record {
      text = record { headers = t.headers; rest = t.rest };
      lines = subst (λ n. Lines n t.rest) none t.lines;
      is = s.is [] ∙ fixed_spells architecture s.first (spells (headers 0 ∷ []) s.second []);
    }

pub text_read : (ks : List Kind) (t : ProgramText) → P4TextAt ks t → stuck whole_text ks ≡ None
text_read ks t p = ap (stuck whole_text) p.tokens ∙ text_pass t p.lines

pub text_taken : (ks : List Kind) → stuck whole_text ks ≡ None → (t : ProgramText) × P4TextAt ks t
text_taken ks h =
    let r = taken whole_text ks h in
    let t = text_of r.trees in
    (t.text, record { tokens = sym r.is ∙ t.is; lines = t.lines })

pub record StuckAt (ks bad : List Kind) : Type 0 where
  pub before : List Kind
  pub is : ks ≡ before ++ bad
  pub begins : BeginsP4 before
  pub none_with : (k : Kind) (rest : List Kind) → bad ≡ k ∷ rest → ¬ BeginsP4 (before ++ k ∷ [])

pub text_stuck : (ks bad : List Kind) → stuck whole_text ks ≡ Some bad → StuckAt ks bad
text_stuck ks bad h =
    let r = stops whole_text ks bad h in
    let t = text_of r.trees in
    record {
      before = r.before;
      is = r.is;
      begins = (r.ends, t.text, record { tokens = sym r.begins ∙ t.is; lines = t.lines });
      none_with = λ k rest e b.
          let whole : stuck whole_text ((r.before ++ k ∷ []) ++ b.0) ≡ None = text_read ((r.before ++ k ∷ []) ++ b.0) b.1 b.2 in
          let same : (r.before ++ k ∷ []) ++ b.0 ≡ r.before ++ (k ∷ b.0) = append_assoc r.before (k ∷ []) b.0 in
          let there : stuck whole_text (r.before ++ (k ∷ b.0)) ≡ Some (k ∷ b.0) = r.stays k rest b.0 e in
          let wrong : Some (k ∷ b.0) ≡ None = sym there ∙ ap (stuck whole_text) (sym same) ∙ whole in
          absurd cc;
    }
