-- The texts of lines and regions, taken apart.
use Rattle.std.specs.Prelude.{ℕ, ℤ, Bool, true, false, ◌+◌, ◌<◌, ◌≡◌, if◌then◌else◌, ◌⊎◌, List, [], ◌∷◌, ◌++◌, length, get_or, take, map, flat_map, codes, Result, Ok, Err, OnOk}
use Rattle.std.specs.Global.{Vec}
use Rattle.std.specs.Fmt.{decimal}
use Rattle.std.proofs.Common.{refl, sym, ap, ◌∙◌, subst, append_assoc, append-nil, inl, inr}
use Rattle.std.proofs.lemmas.List.{map-append, take_more}
use Rattle.std.proofs.lemmas.Grind.{flat_map-append}
use Rattle.semantics.specs.Directives.Directive.{Schedule, StaticPlain, StaticSize, DynamicSize, GuidedSize, Auto, Runtime}
use Rattle.semantics.specs.Directives.Listing.{ListedLoop, Lines, is_static, begin_lines, end_lines, with_commas, doacross_begin, doacross_calls, doacross_end, reduce_lines, pass_lines, loop_lines, numbered}
use Rattle.ktree.specs.declared.directive.Schedule as code
use Rattle.ktree.specs.declared.directive.Schedule.TheVariants as kind
use Rattle.ktree.specs.DirectiveView.{schedule_of}
use Rattle.semantics.specs.Tree.{Name}
use Rattle.semantics.specs.Loops.Operator.{ReduceOp}
use Rattle.pragma_region.specs.Listed.{sink_kept}
use Rattle.listing.specs.Regions.{scan_with, turn_lines, fronted, reduction_words, wait_line}

numbered-append : (r l : ℕ) (xs ys : Lines) → numbered r l (xs ++ ys) ≡ numbered r l xs ++ numbered r l ys
numbered-append r l xs ys = flat_map-append (λ line. decimal r ++ 46 ∷ (decimal l ++ 32 ∷ (line ++ 10 ∷ []))) xs ys

-- lines behind lines
pub both_added : (r l : ℕ) (a b c : List ℕ) (xs ys : Lines) → b ≡ a ++ numbered r l xs → c ≡ b ++ numbered r l ys → c ≡ a ++ numbered r l (xs ++ ys)
both_added r l a b c xs ys e f =
    f ∙ ap (λ t. t ++ numbered r l ys) e ∙ append_assoc a (numbered r l xs) (numbered r l ys) ∙ ap (λ t. a ++ t) (sym (numbered-append r l xs ys))

pub both_added_ok : {T E : Type 0} (q : Result T E) (r l : ℕ) (a b c : List ℕ) (xs ys : Lines) → b ≡ a ++ numbered r l xs → OnOk q (c ≡ b ++ numbered r l ys) → OnOk q (c ≡ a ++ numbered r l (xs ++ ys))
both_added_ok (Ok x) r l a b c xs ys e f = both_added r l a b c xs ys e f
both_added_ok (Err x) r l a b c xs ys e f = tt

-- the begin of a loop, as its schedule has it
pub begun_ok : {T E : Type 0} (q : Result T E) (r l : ℕ) (a b : List ℕ) (s t : code.Schedule) (xs : Lines) → s ≡ t → xs ≡ begin_lines (schedule_of t) → OnOk q (b ≡ a ++ numbered r l xs) → OnOk q (b ≡ a ++ numbered r l (begin_lines (schedule_of s)))
begun_ok q r l a b s t xs e f o =
    subst (λ (s : code.Schedule). OnOk q (b ≡ a ++ numbered r l (begin_lines (schedule_of s)))) (sym e)
    (subst (λ (xs : Lines). OnOk q (b ≡ a ++ numbered r l xs)) f o)

pub plain_ok : {T E : Type 0} (q : Result T E) (r l : ℕ) (a b : List ℕ) (s : code.Schedule) → (s ≡ kind.Static) ⊎ (s ≡ kind.Auto) → OnOk q (b ≡ a ++ numbered r l (codes "__kmpc_for_static_init_8u static" ∷ [])) → OnOk q (b ≡ a ++ numbered r l (begin_lines (schedule_of s)))
plain_ok q r l a b s (inl e) o = begun_ok q r l a b s kind.Static _ e refl o
plain_ok q r l a b s (inr e) o = begun_ok q r l a b s kind.Auto _ e refl o

-- the end of a static one
pub ended_ok : {T E : Type 0} (q : Result T E) (r l : ℕ) (a b : List ℕ) (s : Schedule) → is_static s ≡ true → OnOk q (b ≡ a ++ numbered r l (codes "__kmpc_for_static_fini" ∷ [])) → OnOk q (b ≡ a ++ numbered r l (end_lines s))
ended_ok q r l a b s e o =
    subst (λ (t : Bool). OnOk q (b ≡ a ++ numbered r l (if t then codes "__kmpc_for_static_fini" ∷ [] else []))) (sym e) o

-- words go on
fronted_more : (r l : ℕ) (words more : List ℕ) → fronted r l words ++ more ≡ fronted r l (words ++ more)
fronted_more r l words more = append_assoc (decimal r) (46 ∷ (decimal l ++ 32 ∷ words)) more ∙ ap (λ t. decimal r ++ 46 ∷ t) (append_assoc (decimal l) (32 ∷ words) more)

-- the front of a line, more words, and its end
word_line : (r l : ℕ) (a b c d words more : List ℕ) → b ≡ a ++ fronted r l words → c ≡ b ++ more → d ≡ c ++ 10 ∷ [] → d ≡ a ++ numbered r l ((words ++ more) ∷ [])
word_line r l a b c d words more f g h =
    let line : d ≡ a ++ (fronted r l (words ++ more) ++ 10 ∷ []) =
    h ∙ ap (λ t. t ++ 10 ∷ []) (g ∙ ap (λ t. t ++ more) f ∙ append_assoc a (fronted r l words) more ∙ ap (λ t. a ++ t) (fronted_more r l words more)) ∙ append_assoc a (fronted r l (words ++ more)) (10 ∷ []) in
    line ∙ ap (λ t. a ++ t) (fronted_more r l (words ++ more) (10 ∷ []) ∙ sym (append-nil (fronted r l ((words ++ more) ++ 10 ∷ []))))

-- the words of reductions, the end of their line, and the line behind it
pub reduced_ok : {T E : Type 0} (q : Result T E) (r l : ℕ) (a b c d e : List ℕ) (rs : List (Name × ReduceOp)) → (length rs ≡ 0 → ⊥) → b ≡ a ++ fronted r l (codes "__kmpc_reduce") → c ≡ b ++ flat_map reduction_words rs
    → d ≡ c ++ 10 ∷ [] → OnOk q (e ≡ d ++ numbered r l (codes "__kmpc_end_reduce" ∷ [])) → OnOk q (e ≡ a ++ numbered r l (reduce_lines rs))
reduced_ok q r l a b c d e [] some f g h o = absurd (some refl)
reduced_ok q r l a b c d e (x ∷ xs) some f g h o =
    let words = flat_map reduction_words (x ∷ xs) in
    both_added_ok q r l a d e ((codes "__kmpc_reduce" ++ words) ∷ []) (codes "__kmpc_end_reduce" ∷ []) (word_line r l a b c d (codes "__kmpc_reduce") words f g h) o

-- the wait for a sink
pub wait_ok : {T E : Type 0} (q : Result T E) (r l : ℕ) (a b c d : List ℕ) (ds : List ℤ) → b ≡ a ++ fronted r l (codes "__kmpc_doacross_wait ") → c ≡ b ++ with_commas ds → OnOk q (d ≡ c ++ 10 ∷ [])
    → OnOk q (d ≡ a ++ numbered r l (wait_line ds ∷ []))
wait_ok (Ok x) r l a b c d ds f g h = word_line r l a b c d (codes "__kmpc_doacross_wait ") (with_commas ds) f g h
wait_ok (Err x) r l a b c d ds f g h = tt

-- a wait more
pub wait_more : (r l : ℕ) (a b c : List ℕ) (sinks : List (Vec ℤ)) (i : ℕ) (sink : Vec ℤ) → i < length sinks → sink ≡ get_or sinks i sink → b ≡ a ++ numbered r l (map wait_line (map sink_kept (take i sinks)))
    → c ≡ b ++ numbered r l (wait_line sink.items ∷ []) → c ≡ a ++ numbered r l (map wait_line (map sink_kept (take (i + 1) sinks)))
wait_more r l a b c sinks i sink lt is f g =
    let before = take i sinks in
    let one = sink ∷ [] in
    let passed : take (i + 1) sinks ≡ before ++ one = take_more sinks i sink lt ∙ ap (λ x. before ++ x ∷ []) (sym is) in
    both_added r l a b c (map wait_line (map sink_kept before)) (wait_line sink.items ∷ []) f g
    ∙ ap (λ xs. a ++ numbered r l xs)
    (sym (ap (λ xs. map wait_line (map sink_kept xs)) passed ∙ ap (map wait_line) (map-append sink_kept before one) ∙ map-append wait_line (map sink_kept before) (map sink_kept one)))

-- where it is no scan's
abbrev plain_lines : ListedLoop → Lines
plain_lines x = turn_lines x ++ reduce_lines x.reductions ++ codes "__kmpc_barrier" ∷ []

plain_is : (x : ListedLoop) → x.scan ≡ false → loop_lines x ≡ plain_lines x
plain_is x e = ap (λ b. if b then pass_lines x ++ pass_lines x else plain_lines x) e

-- one pass over a scan's loop
pass_parts : (s : Schedule) → (begin_lines s ++ end_lines s) ++ codes "__kmpc_barrier" ∷ [] ≡ pass_lines (scan_with s)
pass_parts StaticPlain = refl
pass_parts (StaticSize k) = refl
pass_parts (DynamicSize k) = refl
pass_parts (GuidedSize k) = refl
pass_parts Auto = refl
pass_parts Runtime = refl

pub pass_ok : {T E : Type 0} (q : Result T E) (r l : ℕ) (a b c d : List ℕ) (s : Schedule) → b ≡ a ++ numbered r l (begin_lines s) → c ≡ b ++ numbered r l (end_lines s)
    → OnOk q (d ≡ c ++ numbered r l (codes "__kmpc_barrier" ∷ [])) → OnOk q (d ≡ a ++ numbered r l (pass_lines (scan_with s)))
pass_ok q r l a b c d s f g o =
    subst (λ (xs : Lines). OnOk q (d ≡ a ++ numbered r l xs)) (pass_parts s)
    (both_added_ok q r l a c d (begin_lines s ++ end_lines s) (codes "__kmpc_barrier" ∷ []) (both_added r l a b c (begin_lines s) (end_lines s) f g) o)

-- both
pub passes_ok : {T E : Type 0} (q : Result T E) (r l : ℕ) (a b c : List ℕ) (x : ListedLoop) (s : Schedule) → x.scan ≡ true → s ≡ x.schedule → b ≡ a ++ numbered r l (pass_lines (scan_with s))
    → OnOk q (c ≡ b ++ numbered r l (pass_lines (scan_with s))) → OnOk q (c ≡ a ++ numbered r l (loop_lines x))
passes_ok q r l a b c x s scan e f o =
    let lines = pass_lines (scan_with s) in
    let passes : lines ++ lines ≡ loop_lines x =
    ap (λ k. pass_lines (scan_with k) ++ pass_lines (scan_with k)) e ∙ sym (ap (λ t. if t then pass_lines x ++ pass_lines x else plain_lines x) scan) in
    subst (λ xs. OnOk q (c ≡ a ++ numbered r l xs)) passes (both_added_ok q r l a b c lines lines f o)

pub turns_ok : {T E : Type 0} (q : Result T E) (r l : ℕ) (x : ListedLoop) (s : Schedule) (a b c d e f : List ℕ) → s ≡ x.schedule → b ≡ a ++ numbered r l (doacross_begin x.doacross) → c ≡ b ++ numbered r l (begin_lines s)
    → d ≡ c ++ numbered r l (doacross_calls x.doacross x.sinks) → e ≡ d ++ numbered r l (end_lines s) → OnOk q (f ≡ e ++ numbered r l (doacross_end x.doacross)) → OnOk q (f ≡ a ++ numbered r l (turn_lines x))
turns_ok q r l x s a b c d e f is p1 p2 p3 p4 o =
    let begun = doacross_begin x.doacross in
    let first = begin_lines s in
    let calls = doacross_calls x.doacross x.sinks in
    let last = end_lines s in
    let ended = doacross_end x.doacross in
    let two = both_added r l a b c begun first p1 p2 in
    let three = both_added r l a c d (begun ++ first) calls two p3 in
    let four = both_added r l a d e (begun ++ first ++ calls) last three p4 in
    subst (λ xs. OnOk q (f ≡ a ++ numbered r l xs)) (ap (λ k. begun ++ begin_lines k ++ calls ++ end_lines k ++ ended) is) (both_added_ok q r l a e f (begun ++ first ++ calls ++ last) ended four o)

pub loop_ok : {T E : Type 0} (q : Result T E) (r l : ℕ) (x : ListedLoop) (rs : List (Name × ReduceOp)) (a b c d : List ℕ) → x.scan ≡ false → rs ≡ x.reductions → b ≡ a ++ numbered r l (turn_lines x)
    → c ≡ b ++ numbered r l (reduce_lines rs) → OnOk q (d ≡ c ++ numbered r l (codes "__kmpc_barrier" ∷ [])) → OnOk q (d ≡ a ++ numbered r l (loop_lines x))
loop_ok q r l x rs a b c d scan is p1 p2 o =
    let barrier = codes "__kmpc_barrier" ∷ [] in
    let two = both_added r l a b c (turn_lines x) (reduce_lines rs) p1 p2 in
    let whole : turn_lines x ++ reduce_lines rs ++ barrier ≡ loop_lines x = ap (λ qs. turn_lines x ++ reduce_lines qs ++ barrier) is ∙ sym (plain_is x scan) in
    subst (λ xs. OnOk q (d ≡ a ++ numbered r l xs)) whole (both_added_ok q r l a c d (turn_lines x ++ reduce_lines rs) barrier two o)

-- other words for the same lines
pub lines_same : {T E : Type 0} (q : Result T E) (r l : ℕ) (a b : List ℕ) (xs ys : Lines) → xs ≡ ys → OnOk q (b ≡ a ++ numbered r l xs) → OnOk q (b ≡ a ++ numbered r l ys)
lines_same q r l a b xs ys e o = subst (λ (zs : Lines). OnOk q (b ≡ a ++ numbered r l zs)) e o
