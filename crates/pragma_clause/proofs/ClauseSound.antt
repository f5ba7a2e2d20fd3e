-- Whatever is read as a clause, or as clauses, the grammar has.
use Rattle.std.specs.Prelude.{ℕ, zero, suc, Bool, true, ◌&&◌, ◌≡◌, ◌^◌, nat_le, List, [], ◌∷◌, ◌++◌, Option, Some, None, codes}
use Rattle.std.specs.List.{list_all}
use Rattle.std.proofs.Common.{refl, sym, ap, ◌∙◌, subst}
use Rattle.std.proofs.lemmas.List.{append_assoc}
use Rattle.semantics.specs.Tree.{Name}
use Rattle.semantics.specs.Source.Token.{Token, Word, Punctuator, OpenParen, CloseParen, Comma, Colon}
use Rattle.semantics.specs.Source.Cuts.{is_decimal, decimal_from}
use Rattle.semantics.specs.Source.Scope.{same_name}
use Rattle.semantics.specs.Loops.Operator.{ReduceOp}
use Rattle.semantics.specs.Directives.Directive.{Schedule, Clause, op_text}
use Rattle.semantics.specs.Directives.DirectiveGrammar as grammar
use Rattle.semantics.specs.Directives.DirectiveGrammar.{is_list_name, called, ReadsNames, ReadsNumber, ReadsSchedule, ReadsClause, ReadsFurther, ReadsClauses, each_once}
use Rattle.cparse_grammar.specs.Reading.{chosen}
use Rattle.cparse_grammar.specs.NextTokens as ahead
use Rattle.cparse_grammar.proofs.Binds.{first_true, second_true, both_true}
use Rattle.pragma_clause.specs.ClauseReader as reader
use Rattle.pragma_clause.specs.ClauseReader.{Reads, run, is_end, name, listed, names, number_in, number}
use Rattle.pragma_clause.proofs.Steps.{out, no_some, bound, tested, opted, same, run_is, end_is, word_is, open_is, close_is, comma_is, colon_is, name_is}

-- a front of the tokens that is so, and the rest behind it
pub record Front {A : Type 0} (R : List Token → A → Type 0) (ts : List Token) (x : A × List Token) : Type 0 where
  pub front : List Token
  pub split : ts ≡ front ++ x.1
  pub reads : R front x.0

-- a front that is so, with tokens before it
pub moved : {A : Type 0} {R : List Token → A → Type 0} {ts us : List Token} {x : A × List Token} → us ≡ ts → Front R ts x → Front R us x
moved e f = record { front = f.front; split = e ∙ f.split; reads = f.reads }

-- items read so far, and those that the grammar has in front
pub record Listed {A : Type 0} (R : List Token → List A → Type 0) (ys : List A) (ts : List Token) (x : List A × List Token) : Type 0 where
  pub items : List A
  pub front : List Token
  pub all : x.0 ≡ ys ++ items
  pub split : ts ≡ front ++ x.1
  pub reads : R front items

module _ {A : Type 0} (read : Reads A) (One : List ℕ → A → Type 0) (R : List Token → List A → Type 0)
    (read_is : (ts : List Token) (x : A × List Token) → read ts ≡ Some x → (w : List ℕ) × (ts ≡ Word w ∷ x.1) × One w x.0)
    (one : (w : List ℕ) (a : A) → One w a → R (Word w ∷ []) (a ∷ []))
    (more : (w : List ℕ) (a : A) (ts : List Token) (xs : List A) → One w a → R ts xs → R (Word w ∷ Punctuator Comma ∷ ts) (a ∷ xs)) where
  turn : (n : ℕ) (ys : List A) (ts : List Token) (x : List A × List Token) (a : A × List Token) → (w : List ℕ) × (ts ≡ Word w ∷ a.1) × One w a.0
      → ((behind : List Token) → listed read n (ys ++ a.0 ∷ []) behind ≡ Some x → Listed R (ys ++ a.0 ∷ []) behind x)
      → chosen (ahead.comma a.1) (Some (ys ++ a.0 ∷ [], a.1)) (λ behind. listed read n (ys ++ a.0 ∷ []) behind) ≡ Some x → Listed R ys ts x
  turn n ys ts x a is ih e =
      opted (ahead.comma a.1) _ _ x e
      (λ _ e. record { items = a.0 ∷ []; front = Word is.0 ∷ []; all = ap (λ x. x.0) (sym (out e)); split = is.1 ∙ ap (λ x. Word is.0 ∷ x.1) (out e); reads = one is.0 a.0 is.2 })
      (λ behind h e.
      let rest = ih behind e in
      record {
        items = a.0 ∷ rest.items;
        front = Word is.0 ∷ Punctuator Comma ∷ rest.front;
        all = rest.all ∙ append_assoc ys (a.0 ∷ []) rest.items;
        split = is.1 ∙ ap (λ us. Word is.0 ∷ us) (comma_is a.1 behind h) ∙ ap (λ us. Word is.0 ∷ Punctuator Comma ∷ us) rest.split;
        reads = more is.0 a.0 rest.front rest.items is.2 rest.reads;
      })

  pub listed_sound : (n : ℕ) (ys : List A) (ts : List Token) (x : List A × List Token) → listed read n ys ts ≡ Some x → Listed R ys ts x
  listed_sound zero ys ts x e = no_some e
  listed_sound (suc n) ys ts x e = bound (read ts) _ x e (λ a h e. turn n ys ts x a (read_is ts a h) (λ behind. listed_sound n (ys ++ a.0 ∷ []) behind x) e)

-- a name as an item
abbrev pub IsItem : List ℕ → Name → Type 0
IsItem w x = (w ≡ x) × (is_list_name x ≡ true)

pub names_sound : (n : ℕ) (ts : List Token) (x : List Name × List Token) → names n ts ≡ Some x → Front ReadsNames ts x
names_sound n ts x e =
    let l = listed_sound name IsItem ReadsNames (λ ts x e. let is = name_is ts x e in (x.0, is.0, (refl, is.1))) (λ w a h. subst (λ w. ReadsNames (Word w ∷ []) (a ∷ [])) (sym h.0) (grammar.only h.1))
    (λ w a ts xs h r. subst (λ w. ReadsNames (Word w ∷ Punctuator Comma ∷ ts) (a ∷ xs)) (sym h.0) (grammar.further h.1 r)) n [] ts x e in
    record { front = l.front; split = l.split; reads = subst (ReadsNames l.front) (sym l.all) l.reads }

number_in_is : (most : ℕ) (w : List ℕ) (n : ℕ) → number_in true most w ≡ Some n → ReadsNumber most w n
number_in_is most w n e =
    tested (is_decimal w && nat_le 1 (decimal_from 0 w)) _ _ n e
    (λ h e. tested (nat_le (decimal_from 0 w) most) _ _ n e (λ g e. subst (ReadsNumber most w) (out e)
    (grammar.number (first_true (is_decimal w) _ h) (both_true (second_true (is_decimal w) _ h) g))) no_some) no_some

pub number_sound : (most : ℕ) (ts : List Token) (x : ℕ × List Token) → number true most ts ≡ Some x → (w : List ℕ) × (ts ≡ Word w ∷ x.1) × ReadsNumber most w x.0
number_sound most ts x e =
    bound (run ts) _ x e (λ w h e. bound (number_in true most w.0) _ x e (λ n g e.
    (w.0, run_is ts w h ∙ ap (λ x. Word w.0 ∷ x.1) (out e), subst (ReadsNumber most w.0) (ap (λ x. x.0) (out e)) (number_in_is most w.0 n g))))

-- a word that is one of a table's
plain_kind_is : (w : List ℕ) (s : Schedule) → reader.plain_kind w ≡ Some s → ReadsSchedule (Word w ∷ []) s
plain_kind_is w s e =
    let P : List ℕ → Type 0 = λ w. ReadsSchedule (Word w ∷ []) s in
    tested (same_name w (codes "static")) _ _ s e (λ h e. subst P (sym (same w _ h)) (subst (ReadsSchedule _) (out e) grammar.static_plain)) (λ e.
    tested (same_name w (codes "dynamic")) _ _ s e (λ h e. subst P (sym (same w _ h)) (subst (ReadsSchedule _) (out e) grammar.dynamic)) (λ e.
    tested (same_name w (codes "guided")) _ _ s e (λ h e. subst P (sym (same w _ h)) (subst (ReadsSchedule _) (out e) grammar.guided)) (λ e.
    tested (same_name w (codes "auto")) _ _ s e (λ h e. subst P (sym (same w _ h)) (subst (ReadsSchedule _) (out e) grammar.auto)) (λ e.
    tested (same_name w (codes "runtime")) _ _ s e (λ h e. subst P (sym (same w _ h)) (subst (ReadsSchedule _) (out e) grammar.runtime)) no_some))))

sized_kind_is : (w v : List ℕ) (k : ℕ) (s : Schedule) → ReadsNumber (2 ^ 24) v k → reader.sized_kind w k ≡ Some s → ReadsSchedule (Word w ∷ Punctuator Comma ∷ Word v ∷ []) s
sized_kind_is w v k s r e =
    let P : List ℕ → Type 0 = λ w. ReadsSchedule (Word w ∷ Punctuator Comma ∷ Word v ∷ []) s in
    tested (same_name w (codes "static")) _ _ s e (λ h e. subst P (sym (same w _ h)) (subst (ReadsSchedule _) (out e) (grammar.static_size r))) (λ e.
    tested (same_name w (codes "dynamic")) _ _ s e (λ h e. subst P (sym (same w _ h)) (subst (ReadsSchedule _) (out e) (grammar.dynamic_size r))) (λ e.
    tested (same_name w (codes "guided")) _ _ s e (λ h e. subst P (sym (same w _ h)) (subst (ReadsSchedule _) (out e) (grammar.guided_size r))) no_some))

-- a kind behind its word and its size
kind_sound : (w : List ℕ) (ts : List Token) (k : Option ℕ × List Token) (s : Schedule) → reader.size true ts ≡ Some k → reader.kind w k.0 ≡ Some s → Front ReadsSchedule (Word w ∷ ts) (s, k.1)
kind_sound w ts k s e f =
    opted (ahead.comma ts) _ _ k e
    (λ _ e. record { front = Word w ∷ []; split = ap (λ k. Word w ∷ k.1) (out e); reads = plain_kind_is w s (ap (λ k. reader.kind w k.0) (out e) ∙ f) })
    (λ behind h e. bound (number true (2 ^ 24) behind) _ k e (λ n g e.
    let is = number_sound (2 ^ 24) behind n g in
    record {
      front = Word w ∷ Punctuator Comma ∷ Word is.0 ∷ [];
      split = ap (λ us. Word w ∷ us) (comma_is ts behind h) ∙ ap (λ us. Word w ∷ Punctuator Comma ∷ us) is.1 ∙ ap (λ k. Word w ∷ Punctuator Comma ∷ Word is.0 ∷ k.1) (out e);
      reads = sized_kind_is w is.0 n.0 s is.2 (ap (λ k. reader.kind w k.0) (out e) ∙ f);
    }))

schedule_sound : (ts : List Token) (x : Schedule × List Token) → reader.schedule true ts ≡ Some x → Front ReadsSchedule ts x
schedule_sound ts x e =
    bound (run ts) _ x e (λ w h e. bound (reader.size true w.1) _ x e (λ k g e. bound (reader.kind w.0 k.0) _ x e (λ s f e.
    moved (run_is ts w h) (subst (Front ReadsSchedule (Word w.0 ∷ w.1)) (out e) (kind_sound w.0 w.1 k s g f)))))

operator_is : (w : List ℕ) (op : ReduceOp) → reader.operator w ≡ Some op → w ≡ op_text op
operator_is w op e =
    tested (same_name w (codes "+")) _ _ op e (λ h e. same w _ h ∙ ap op_text (out e)) (λ e.
    tested (same_name w (codes "*")) _ _ op e (λ h e. same w _ h ∙ ap op_text (out e)) (λ e.
    tested (same_name w (codes "&")) _ _ op e (λ h e. same w _ h ∙ ap op_text (out e)) (λ e.
    tested (same_name w (codes "|")) _ _ op e (λ h e. same w _ h ∙ ap op_text (out e)) (λ e.
    tested (same_name w (codes "^")) _ _ op e (λ h e. same w _ h ∙ ap op_text (out e)) (λ e.
    tested (same_name w (codes "&&")) _ _ op e (λ h e. same w _ h ∙ ap op_text (out e)) (λ e.
    tested (same_name w (codes "||")) _ _ op e (λ h e. same w _ h ∙ ap op_text (out e)) (λ e.
    tested (same_name w (codes "max")) _ _ op e (λ h e. same w _ h ∙ ap op_text (out e)) (λ e.
    tested (same_name w (codes "min")) _ _ op e (λ h e. same w _ h ∙ ap op_text (out e)) no_some))))))))

identifier_is : (ts : List Token) (x : ReduceOp × List Token) → reader.identifier ts ≡ Some x → ts ≡ Word (op_text x.0) ∷ Punctuator Colon ∷ x.1
identifier_is ts x e =
    bound (run ts) _ x e (λ w h e. bound (reader.operator w.0) _ x e (λ op g e. bound (ahead.colon w.1) _ x e (λ behind f e.
    run_is ts w h ∙ ap (λ us. Word w.0 ∷ us) (colon_is w.1 behind f) ∙ ap (λ v. Word v ∷ Punctuator Colon ∷ behind) (operator_is w.0 op g)
    ∙ ap (λ x. Word (op_text x.0) ∷ Punctuator Colon ∷ x.1) (out e))))

-- what stands between the parentheses behind a word
abbrev pub Inside : List ℕ → List Token → Clause Name → Type 0
Inside w ts c = ReadsClause (called w ts) c

inscan_sound : (ts : List Token) (x : Clause Name × List Token) → reader.inscan ts ≡ Some x → Front (λ us c. Inside (codes "reduction") (Word (codes "inscan") ∷ us) c) ts x
inscan_sound ts x e =
    bound (ahead.comma ts) _ x e (λ behind h e. bound (reader.identifier behind) _ x e (λ op g e. bound (name op.1) _ x e (λ y f e.
    let is = name_is op.1 y f in
    subst (Front _ ts) (out e)
    (record {
      front = Punctuator Comma ∷ Word (op_text op.0) ∷ Punctuator Colon ∷ Word y.0 ∷ [];
      split = comma_is ts behind h ∙ ap (λ us. Punctuator Comma ∷ us) (identifier_is behind op g) ∙ ap (λ us. Punctuator Comma ∷ Word (op_text op.0) ∷ Punctuator Colon ∷ us) is.0;
      reads = grammar.inscan op.0 is.1;
    }))))

reduction_sound : (n : ℕ) (ts : List Token) (x : Clause Name × List Token) → reader.reduction n ts ≡ Some x → Front (Inside (codes "reduction")) ts x
reduction_sound n ts x e =
    opted (ahead.word (codes "inscan") ts) _ _ x e
    (λ _ e. bound (reader.identifier ts) _ x e (λ op g e. bound (names n op.1) _ x e (λ xs f e.
    let is = names_sound n op.1 xs f in
    subst (Front (Inside (codes "reduction")) ts) (out e)
    (record {
      front = Word (op_text op.0) ∷ Punctuator Colon ∷ is.front;
      split = identifier_is ts op g ∙ ap (λ us. Word (op_text op.0) ∷ Punctuator Colon ∷ us) is.split;
      reads = grammar.reduction op.0 is.reads;
    }))))
    (λ behind h e.
    let is = inscan_sound behind x e in
    record { front = Word (codes "inscan") ∷ is.front; split = word_is _ ts behind h ∙ ap (λ us. Word (codes "inscan") ∷ us) is.split; reads = is.reads })

conditional_is : (ts us : List Token) → reader.conditional ts ≡ Some us → ts ≡ Word (codes "conditional") ∷ Punctuator Colon ∷ us
conditional_is ts us e =
    bound (ahead.word (codes "conditional") ts) _ us e (λ behind h e. word_is _ ts behind h ∙ ap (λ us. Word (codes "conditional") ∷ us) (colon_is behind us e))

last_sound : (n : ℕ) (ts : List Token) (x : Clause Name × List Token) → reader.last n ts ≡ Some x → Front (Inside (codes "lastprivate")) ts x
last_sound n ts x e =
    opted (reader.conditional ts) _ _ x e
    (λ _ e. bound (names n ts) _ x e (λ xs f e.
    let is = names_sound n ts xs f in
    subst (Front (Inside (codes "lastprivate")) ts) (out e) (record { front = is.front; split = is.split; reads = grammar.lastprivate is.reads })))
    (λ behind h e. bound (names n behind) _ x e (λ xs f e.
    let is = names_sound n behind xs f in
    subst (Front (Inside (codes "lastprivate")) ts) (out e)
    (record {
      front = Word (codes "conditional") ∷ Punctuator Colon ∷ is.front;
      split = conditional_is ts behind h ∙ ap (λ us. Word (codes "conditional") ∷ Punctuator Colon ∷ us) is.split;
      reads = grammar.last_conditional is.reads;
    })))

naming_is : (w : List ℕ) (xs : List Name) (ts : List Token) (c : Clause Name) → ReadsNames ts xs → reader.naming w xs ≡ Some c → Inside w ts c
naming_is w xs ts c r e =
    let P : List ℕ → Type 0 = λ w. Inside w ts c in
    tested (same_name w (codes "shared")) _ _ c e (λ h e. subst P (sym (same w _ h)) (subst (Inside _ ts) (out e) (grammar.shared r))) (λ e.
    tested (same_name w (codes "private")) _ _ c e (λ h e. subst P (sym (same w _ h)) (subst (Inside _ ts) (out e) (grammar.private r))) (λ e.
    tested (same_name w (codes "firstprivate")) _ _ c e (λ h e. subst P (sym (same w _ h)) (subst (Inside _ ts) (out e) (grammar.firstprivate r))) no_some))

named_sound : (n : ℕ) (w : List ℕ) (ts : List Token) (x : Clause Name × List Token) → reader.named n w ts ≡ Some x → Front (Inside w) ts x
named_sound n w ts x e =
    bound (names n ts) _ x e (λ xs f e. bound (reader.naming w xs.0) _ x e (λ c g e.
    let is = names_sound n ts xs f in
    subst (Front (Inside w) ts) (out e) (record { front = is.front; split = is.split; reads = naming_is w xs.0 is.front c is.reads g })))

default_is : (w : List ℕ) (c : Clause Name) → reader.default' w ≡ Some c → Inside (codes "default") (Word w ∷ []) c
default_is w c e =
    let P : List ℕ → Type 0 = λ w. Inside (codes "default") (Word w ∷ []) c in
    tested (same_name w (codes "shared")) _ _ c e (λ h e. subst P (sym (same w _ h)) (subst (Inside (codes "default") (Word (codes "shared") ∷ [])) (out e) grammar.default_shared)) (λ e.
    tested (same_name w (codes "none")) _ _ c e (λ h e. subst P (sym (same w _ h)) (subst (Inside (codes "default") (Word (codes "none") ∷ [])) (out e) grammar.default_none)) no_some)

plain_sound : (w : List ℕ) (ts : List Token) (x : Clause Name × List Token) → reader.plain true w ts ≡ Some x → Front (Inside w) ts x
plain_sound w ts x e =
    let P : List ℕ → Type 0 = λ w. Front (Inside w) ts x in
    tested (same_name w (codes "default")) _ _ x e (λ h e. subst P (sym (same w _ h)) (bound (run ts) _ x e (λ v g e. bound (reader.default' v.0) _ x e (λ c f e.
    subst (Front (Inside (codes "default")) ts) (out e) (record { front = Word v.0 ∷ []; split = run_is ts v g; reads = default_is v.0 c f }))))) (λ e.
    tested (same_name w (codes "schedule")) _ _ x e (λ h e. subst P (sym (same w _ h)) (bound (reader.schedule true ts) _ x e (λ s g e.
    let is = schedule_sound ts s g in
    subst (Front (Inside (codes "schedule")) ts) (out e) (record { front = is.front; split = is.split; reads = grammar.schedule is.reads })))) (λ e.
    tested (same_name w (codes "collapse")) _ _ x e (λ h e. subst P (sym (same w _ h)) (bound (number true 4 ts) _ x e (λ n g e.
    let is = number_sound 4 ts n g in
    subst (Front (Inside (codes "collapse")) ts) (out e) (record { front = Word is.0 ∷ []; split = is.1; reads = grammar.collapse is.2 })))) no_some))

inside_sound : (n : ℕ) (w : List ℕ) (ts : List Token) (x : Clause Name × List Token) → reader.inside true n w ts ≡ Some x → Front (Inside w) ts x
inside_sound n w ts x e =
    let P : List ℕ → Type 0 = λ w. Front (Inside w) ts x in
    tested (reader.is_plain w) _ _ x e (λ _ e. plain_sound w ts x e) (λ e.
    tested (same_name w (codes "reduction")) _ _ x e (λ h e. subst P (sym (same w _ h)) (reduction_sound n ts x e)) (λ e.
    tested (same_name w (codes "lastprivate")) _ _ x e (λ h e. subst P (sym (same w _ h)) (last_sound n ts x e)) (λ e. named_sound n w ts x e)))

-- behind a word in parentheses
called_is : (w : List ℕ) (ts us vs : List Token) → ts ≡ us ++ Punctuator CloseParen ∷ vs → Word w ∷ Punctuator OpenParen ∷ ts ≡ called w us ++ vs
called_is w ts us vs e =
    ap (λ ts. Word w ∷ Punctuator OpenParen ∷ ts) (e ∙ sym (append_assoc us (Punctuator CloseParen ∷ []) vs))

enclosed_sound : (n : ℕ) (w : List ℕ) (ts : List Token) (x : Clause Name × List Token) → reader.enclosed true n w ts ≡ Some x → Front ReadsClause (Word w ∷ ts) x
enclosed_sound n w ts x e =
    bound (ahead.open_paren ts) _ x e (λ inner h e. bound (reader.inside true n w inner) _ x e (λ c g e. bound (ahead.close_paren c.1) _ x e (λ rest f e.
    let is = inside_sound n w inner c g in
    subst (Front ReadsClause (Word w ∷ ts)) (out e)
    (record {
      front = called w is.front;
      split = ap (λ us. Word w ∷ us) (open_is ts inner h) ∙ called_is w inner is.front rest (is.split ∙ ap (λ us. is.front ++ us) (close_is c.1 rest f));
      reads = is.reads;
    }))))

loops_sound : (ts : List Token) (x : Clause Name × List Token) → reader.loops true ts ≡ Some x → Front ReadsClause (Word (codes "ordered") ∷ Punctuator OpenParen ∷ ts) x
loops_sound ts x e =
    bound (number true 4 ts) _ x e (λ n g e. bound (ahead.close_paren n.1) _ x e (λ rest f e.
    let is = number_sound 4 ts n g in
    subst (Front ReadsClause (Word (codes "ordered") ∷ Punctuator OpenParen ∷ ts)) (out e)
    (record {
      front = called (codes "ordered") (Word is.0 ∷ []);
      split = called_is (codes "ordered") ts (Word is.0 ∷ []) rest (is.1 ∙ ap (λ us. Word is.0 ∷ us) (close_is n.1 rest f));
      reads = grammar.ordered_loops is.2;
    })))

ordered_sound : (ts : List Token) (x : Clause Name × List Token) → reader.ordered_clause true ts ≡ Some x → Front ReadsClause (Word (codes "ordered") ∷ ts) x
ordered_sound ts x e =
    opted (ahead.open_paren ts) _ _ x e
    (λ _ e. subst (Front ReadsClause (Word (codes "ordered") ∷ ts)) (out e) (record { front = Word (codes "ordered") ∷ []; split = refl; reads = grammar.ordered }))
    (λ inner h e. moved (ap (λ us. Word (codes "ordered") ∷ us) (open_is ts inner h)) (loops_sound inner x e))

pub clause_sound : (n : ℕ) (ts : List Token) (x : Clause Name × List Token) → reader.clause true n ts ≡ Some x → Front ReadsClause ts x
clause_sound n ts x e =
    let P : List ℕ → List Token → Type 0 = λ w us. Front ReadsClause (Word w ∷ us) x in
    bound (run ts) _ x e (λ w h e. moved (run_is ts w h)
    (tested (same_name w.0 (codes "nowait")) _ _ x e
    (λ g e. subst (λ v. P v w.1) (sym (same w.0 _ g)) (subst (Front ReadsClause (Word (codes "nowait") ∷ w.1)) (out e) (record { front = Word (codes "nowait") ∷ []; split = refl; reads = grammar.nowait }))) (λ e.
    tested (same_name w.0 (codes "ordered")) _ _ x e (λ g e. subst (λ v. P v w.1) (sym (same w.0 _ g)) (ordered_sound w.1 x e)) (λ e. enclosed_sound n w.0 w.1 x e))))

-- further clauses behind those that were read
pub record Followed (cs : List (Clause Name)) (ts : List Token) (all : List (Clause Name)) : Type 0 where
  pub items : List (Clause Name)
  pub whole : all ≡ cs ++ items
  pub reads : ReadsFurther ts items

pub append_end : {A : Type 0} (xs : List A) → xs ≡ xs ++ []
append_end [] = refl
append_end (x ∷ xs) = ap (λ ys. x ∷ ys) (append_end xs)

-- one more clause, with a comma in front or none
one_more : (n : ℕ) (ts us : List Token) (c : Clause Name) (cs : List (Clause Name)) → Front ReadsClause (reader.behind_comma ts) (c, us) → ReadsFurther us cs → ReadsFurther ts (c ∷ cs)
one_more n (Punctuator Comma ∷ ts) us c cs f r =
    subst (λ ts. ReadsFurther (Punctuator Comma ∷ ts) (c ∷ cs)) (sym f.split) (grammar.next_behind_comma f.reads r)
one_more n (Punctuator s ∷ ts) us c cs f r = subst (λ ts. ReadsFurther ts (c ∷ cs)) (sym f.split) (grammar.next f.reads r)
one_more n ts us c cs f r = subst (λ ts. ReadsFurther ts (c ∷ cs)) (sym f.split) (grammar.next f.reads r)

further_sound : (most n : ℕ) (cs : List (Clause Name)) (ts : List Token) (all : List (Clause Name)) → reader.further true most n cs ts ≡ Some all → Followed cs ts all
further_sound most zero cs ts all e = no_some e
further_sound most (suc n) cs ts all e =
    tested (is_end ts) _ _ all e
    (λ h e. record { items = []; whole = sym (out e) ∙ append_end cs; reads = subst (λ ts. ReadsFurther ts []) (sym (end_is ts h)) grammar.no_further })
    (λ e. bound (reader.clause true most (reader.behind_comma ts)) _ all e (λ c g e.
    let rest = further_sound most n (cs ++ c.0 ∷ []) c.1 all e in
    record {
      items = c.0 ∷ rest.items;
      whole = rest.whole ∙ append_assoc cs (c.0 ∷ []) rest.items;
      reads = one_more n ts c.1 c.0 rest.items (clause_sound most (reader.behind_comma ts) c g) rest.reads;
    }))

-- clauses that begin with no comma
begun : (ts : List Token) (cs : List (Clause Name)) → ahead.comma ts ≡ None → ReadsFurther ts cs → ReadsClauses ts cs
begun _ _ e grammar.no_further = grammar.no_clauses
begun _ _ e (grammar.next c r) = grammar.first c r
begun _ _ e (grammar.next_behind_comma c r) = absurd (cc e)

clauses_sound : (n : ℕ) (ts : List Token) (cs : List (Clause Name)) → reader.clauses true n ts ≡ Some cs → ReadsClauses ts cs
clauses_sound n ts cs e =
    opted (ahead.comma ts) _ _ cs e
    (λ h e. let all = further_sound n n [] ts cs e in begun ts cs h (subst (ReadsFurther ts) (sym all.whole) all.reads))
    (λ behind _ e. no_some e)

-- the clauses of a directive, each of which may stand on it
pub record OnDirective (may : Clause Name → Bool) (ts : List Token) (cs : List (Clause Name)) : Type 0 where
  pub reads : ReadsClauses ts cs
  pub fit : list_all may cs ≡ true
  pub once : each_once cs ≡ true

pub directive_clauses_sound : (n : ℕ) (may : Clause Name → Bool) (ts : List Token) (cs : List (Clause Name)) → reader.directive_clauses true n may ts ≡ Some cs → OnDirective may ts cs
directive_clauses_sound n may ts cs e =
    bound (reader.clauses true n ts) _ cs e (λ xs h e. tested (list_all may xs && each_once xs) _ _ cs e (λ g e.
    subst (OnDirective may ts) (out e)
    (record { reads = clauses_sound n ts xs h; fit = first_true (list_all may xs) _ g; once = second_true (list_all may xs) _ g })) no_some)
