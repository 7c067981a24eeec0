-- A whole text, part by part.
use Rattle.std.specs.Prelude.{◌≡◌, ℕ, List, [], ◌∷◌, ◌++◌, length, map, drop, Vec, ⊤, refl}
use Rattle.std.specs.Global.{Global}
use Rattle.std.proofs.Common.{sym, ◌∙◌, ap, subst}
use Rattle.std.proofs.lemmas.List.{append_assoc, append-nil, length-map}
use Rattle.cocoon_num.specs.Tokens.{Kind}
use Rattle.p4_ir.specs.P4Text.{architecture}
use Rattle.p4_texts.specs.Machine.{Goals, a_line, a_member, fields, fixed, headers, lines, stmts, stuck, tables, the_deparser, the_egress, the_ingress, the_mark, the_parser, whole_text}
use Rattle.p4_texts.specs.Written.{ProgramText}
use Rattle.std.specs.Prelude.{codes}
use Rattle.p4_texts.specs.TreeOf.{control_of, field_of, header_of, member_of}
use Rattle.p4_texts.specs.declared.written.WrittenControl.{WrittenControl}
use Rattle.p4_texts.specs.declared.written.WrittenField.{WrittenField}
use Rattle.p4_texts.specs.declared.written.WrittenHeader.{WrittenHeader}
use Rattle.p4_texts.specs.declared.written.WrittenMember.{WrittenMember}
use Rattle.p4_parse.specs.Lines.{control_goals, control_tokens, declarations_goals, declarations_tokens, ended_goals, headers_tokens, listed_goals, listed_tokens, struct_goals}
use Rattle.p4_parse.specs.Onward.{Onward}
use Rattle.p4_parse.specs.Phrases.{Read, Refused}
use Rattle.p4_parse.specs.Pieces.{piece_text, piece_tokens}
use Rattle.p4_parse.specs.Program.{ReadEnd, WholeRead, WholeStuck}
use Rattle.p4_parse.specs.declared.pieces.Piece.TheVariants as piece
use Rattle.p4_parse.proofs.Sequences.{before, goals_are, joined, onward, refused_before, stopped}

-- ---- the goals of each part

architecture_is : piece_tokens piece.Architecture ≡ architecture
architecture_is = refl

struct_is : (n : ℕ) → declarations_goals n ++ the_parser n ≡ struct_goals n
struct_is n = ap (λ gs. fixed (piece_tokens piece.Headers) ++ gs) (append_assoc (lines n a_member) (fixed (piece_tokens piece.Meta) ++ (fields ∷ [])) (the_parser n))

parser_is : (n : ℕ) → listed_goals piece.Parser piece.Extract n ++ the_ingress n ≡ the_parser n
parser_is n = append_assoc (fixed (piece_tokens piece.Parser)) (lines n (a_line (piece_text piece.Extract))) (the_ingress n)

ingress_is : (n : ℕ) → control_goals piece.Ingress piece.IngressBegins ++ the_egress n ≡ the_ingress n
ingress_is n = append_assoc (fixed (piece_tokens piece.Ingress)) (tables ∷ the_mark (codes "{") ∷ (fixed (piece_tokens piece.IngressBegins) ++ (stmts ∷ the_mark (codes "}") ∷ []))) (the_egress n)

egress_is : (n : ℕ) → control_goals piece.Egress piece.EgressBegins ++ the_deparser n ≡ the_egress n
egress_is n = append_assoc (fixed (piece_tokens piece.Egress)) (tables ∷ the_mark (codes "{") ∷ (fixed (piece_tokens piece.EgressBegins) ++ (stmts ∷ the_mark (codes "}") ∷ []))) (the_deparser n)

deparser_is : (n : ℕ) → listed_goals piece.Deparser piece.Emit n ++ ended_goals ≡ the_deparser n
deparser_is n = append_assoc (fixed (piece_tokens piece.Deparser)) (lines n (a_line (piece_text piece.Emit))) ended_goals

-- ---- a text up to a part

-- what was read from the first token on leaves these goals
abbrev pub Upto : List Kind → Goals → (List Kind → List Kind) → ℕ → Type 0
Upto ts gs f q = Onward whole_text gs (λ (x : ⊤) ks. f ks) ts 0 tt q

pub whole_stuck : {ts : List Kind} {gs : Goals} {f : List Kind → List Kind} {q i : ℕ} → Upto ts gs f q → Refused gs ts q i → WholeStuck ts i
whole_stuck {ts = ts} u r = let s = stopped u r in record { within = s.within; there = ap (λ gs. stuck gs ts) (sym (append-nil whole_text)) ∙ s.there [] }

pub first_stuck : {ts : List Kind} {i : ℕ} → Refused (fixed (piece_tokens piece.Architecture)) ts 0 i → WholeStuck ts i
first_stuck {ts = ts} {i = i} r =
    let s : Refused whole_text ts 0 i = subst (λ k. Refused (fixed k ++ (headers 0 ∷ [])) ts 0 i) architecture_is (refused_before (headers 0 ∷ []) r) in
    record { within = s.within; there = ap (λ gs. stuck gs ts) (sym (append-nil whole_text)) ∙ s.there [] }

pub upto_headers : (ts : List Kind) (q : ℕ) → Read (fixed (piece_tokens piece.Architecture)) (λ (x : ⊤) ks. piece_tokens piece.Architecture ++ ks) ts 0 tt q → Upto ts (headers 0 ∷ []) (λ ks. architecture ++ ks) q
upto_headers ts q a = subst (λ k. Onward (fixed k ++ (headers 0 ∷ [])) (headers 0 ∷ []) (λ (x : ⊤) ks. k ++ ks) ts 0 tt q) architecture_is (before (headers 0 ∷ []) (onward a))

pub upto_struct : {ts : List Kind} {f : List Kind → List Kind} {q : ℕ} (n r : ℕ) (v : Vec WrittenHeader Global) → length v.items ≡ n → Upto ts (headers 0 ∷ []) f q → Onward (headers 0 ∷ []) (struct_goals (length v.items)) headers_tokens ts q v r
    → Upto ts (struct_goals n) (λ ks. f (headers_tokens v ks)) r
upto_struct {ts = ts} {f = f} n r v e u a = subst (λ m. Upto ts (struct_goals m) (λ ks. f (headers_tokens v ks)) r) e (joined (λ (x : ⊤) ks. f (headers_tokens v ks)) tt u a (λ ks. refl))

-- one part further
further : {A : Type 0} {ts : List Kind} {gs hs : Goals} {f : List Kind → List Kind} {q r : ℕ} (js : Goals) (g : A → List Kind → List Kind) (x : A) → js ++ hs ≡ gs → Upto ts gs f q → Onward js [] g ts q x r → Upto ts hs (λ ks. f (g x ks)) r
further {gs = gs} {hs = hs} {f = f} js g x e u a = joined (λ (y : ⊤) ks. f (g x ks)) tt u (goals_are gs hs e refl (before hs a)) (λ ks. refl)

pub upto_parser : {ts : List Kind} {f : List Kind → List Kind} {q : ℕ} (n r : ℕ) (d : Vec WrittenMember Global × Vec WrittenField Global) → Upto ts (struct_goals n) f q → Onward (declarations_goals n) [] declarations_tokens ts q d r
    → Upto ts (the_parser n) (λ ks. f (declarations_tokens d ks)) r
upto_parser n r d u a = further (declarations_goals n) declarations_tokens d (struct_is n) u a

pub upto_ingress : {ts : List Kind} {f : List Kind → List Kind} {q : ℕ} (n r : ℕ) (v : Vec (List ℕ) Global) → Upto ts (the_parser n) f q → Onward (listed_goals piece.Parser piece.Extract n) [] (listed_tokens piece.Parser piece.Extract) ts q v r
    → Upto ts (the_ingress n) (λ ks. f (listed_tokens piece.Parser piece.Extract v ks)) r
upto_ingress n r v u a = further (listed_goals piece.Parser piece.Extract n) (listed_tokens piece.Parser piece.Extract) v (parser_is n) u a

pub upto_egress : {ts : List Kind} {f : List Kind → List Kind} {q : ℕ} (n r : ℕ) (k : WrittenControl) → Upto ts (the_ingress n) f q → Read (control_goals piece.Ingress piece.IngressBegins) (control_tokens piece.Ingress piece.IngressBegins) ts q k r
    → Upto ts (the_egress n) (λ ks. f (control_tokens piece.Ingress piece.IngressBegins k ks)) r
upto_egress n r k u a = further (control_goals piece.Ingress piece.IngressBegins) (control_tokens piece.Ingress piece.IngressBegins) k (ingress_is n) u (onward a)

pub upto_deparser : {ts : List Kind} {f : List Kind → List Kind} {q : ℕ} (n r : ℕ) (k : WrittenControl) → Upto ts (the_egress n) f q → Read (control_goals piece.Egress piece.EgressBegins) (control_tokens piece.Egress piece.EgressBegins) ts q k r
    → Upto ts (the_deparser n) (λ ks. f (control_tokens piece.Egress piece.EgressBegins k ks)) r
upto_deparser n r k u a = further (control_goals piece.Egress piece.EgressBegins) (control_tokens piece.Egress piece.EgressBegins) k (egress_is n) u (onward a)

pub upto_end : {ts : List Kind} {f : List Kind → List Kind} {q : ℕ} (n r : ℕ) (v : Vec (List ℕ) Global) → Upto ts (the_deparser n) f q → Onward (listed_goals piece.Deparser piece.Emit n) [] (listed_tokens piece.Deparser piece.Emit) ts q v r
    → Upto ts ended_goals (λ ks. f (listed_tokens piece.Deparser piece.Emit v ks)) r
upto_end n r v u a = further (listed_goals piece.Deparser piece.Emit n) (listed_tokens piece.Deparser piece.Emit) v (deparser_is n) u a

-- a part that is not read
pub no_declarations : {ts : List Kind} {q i : ℕ} (n : ℕ) → Refused (declarations_goals n) ts q i → Refused (struct_goals n) ts q i
no_declarations {ts = ts} {q = q} {i = i} n r = subst (λ gs. Refused gs ts q i) (struct_is n) (refused_before (the_parser n) r)

pub no_parser : {ts : List Kind} {q i : ℕ} (n : ℕ) → Refused (listed_goals piece.Parser piece.Extract n) ts q i → Refused (the_parser n) ts q i
no_parser {ts = ts} {q = q} {i = i} n r = subst (λ gs. Refused gs ts q i) (parser_is n) (refused_before (the_ingress n) r)

pub no_ingress : {ts : List Kind} {q i : ℕ} (n : ℕ) → Refused (control_goals piece.Ingress piece.IngressBegins) ts q i → Refused (the_ingress n) ts q i
no_ingress {ts = ts} {q = q} {i = i} n r = subst (λ gs. Refused gs ts q i) (ingress_is n) (refused_before (the_egress n) r)

pub no_egress : {ts : List Kind} {q i : ℕ} (n : ℕ) → Refused (control_goals piece.Egress piece.EgressBegins) ts q i → Refused (the_egress n) ts q i
no_egress {ts = ts} {q = q} {i = i} n r = subst (λ gs. Refused gs ts q i) (egress_is n) (refused_before (the_deparser n) r)

pub no_deparser : {ts : List Kind} {q i : ℕ} (n : ℕ) → Refused (listed_goals piece.Deparser piece.Emit n) ts q i → Refused (the_deparser n) ts q i
no_deparser {ts = ts} {q = q} {i = i} n r = subst (λ gs. Refused gs ts q i) (deparser_is n) (refused_before ended_goals r)

-- ---- the whole

abbrev pub text_from : Vec WrittenHeader Global → Vec WrittenMember Global → Vec WrittenField Global → Vec (List ℕ) Global → WrittenControl → WrittenControl → Vec (List ℕ) Global → ProgramText
text_from hs ms fs xs i e ys = record {
  headers = map header_of hs.items;
  rest = record { members = map member_of ms.items; meta = map field_of fs.items; extracts = xs.items; ingress = control_of i; egress = control_of e; emits = ys.items };
}

-- the tokens of all parts
abbrev pub parts_tokens : Vec WrittenHeader Global → Vec WrittenMember Global → Vec WrittenField Global → Vec (List ℕ) Global → WrittenControl → WrittenControl → Vec (List ℕ) Global → List Kind → List Kind
parts_tokens hs ms fs xs i e ys ks =
    architecture ++ headers_tokens hs (declarations_tokens (ms, fs) (listed_tokens piece.Parser piece.Extract xs (control_tokens piece.Ingress piece.IngressBegins i (control_tokens piece.Egress piece.EgressBegins e (listed_tokens piece.Deparser piece.Emit ys ks)))))

pub whole_read : (hs : Vec WrittenHeader Global) (ms : Vec WrittenMember Global) (fs : Vec WrittenField Global) (xs : Vec (List ℕ) Global) (i e : WrittenControl) (ys : Vec (List ℕ) Global) (ts : List Kind) (n q r : ℕ) (t : ProgramText) → t ≡ text_from hs ms fs xs i e ys
    → length hs.items ≡ n → length ms.items ≡ n → length xs.items ≡ n → length ys.items ≡ n → Upto ts ended_goals (parts_tokens hs ms fs xs i e ys) q → ReadEnd ts q r → WholeRead ts t
whole_read hs ms fs xs i e ys ts n q r t is h m x y u a = subst (λ z. WholeRead ts z) (sym is) (record {
  at = a.at;
  next = r;
  stands = a.stands;
  are = u.are ∙ ap (parts_tokens hs ms fs xs i e ys) a.are;
  lines =
      let all : length (map header_of hs.items) ≡ n = length-map hs.items header_of ∙ h in
      record { members = length-map ms.items member_of ∙ m ∙ sym all; extracts = x ∙ sym all; emits = y ∙ sym all };
  goes = ap (λ gs. stuck gs ts) (sym (append-nil whole_text)) ∙ u.goes [] ∙ ap (λ gs. stuck gs (drop q ts)) (append-nil ended_goals) ∙ a.goes;
})
