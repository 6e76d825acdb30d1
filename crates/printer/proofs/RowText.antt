-- The printing of a row, part after part.
use Prim.Native.Nat.{ℕ, zero, suc, ◌+◌, ◌-◌, ◌≤◌, ◌<◌, min}
use native.Mathlib.Omega.{arith}
use native.Mathlib.Numerals.{add-one}
use mathlib.Core.Path.{◌≡◌, refl, sym, ap, ◌∙◌, subst}
use mathlib.Core.List.{List, [], ◌∷◌, ◌++◌, append_assoc, append-nil}
use mathlib.Core.Bool.{Bool}
use lib.ListN.{length, take, drop, replicate, length-append, length-take, length-drop}
use Rattle.basics.specs.Text.{Text, ascii}
use Rattle.basics.specs.Write.{MOST, Wrote, WroteRepeat}
use Rattle.basics.proofs.Laws.{joined, wrote_then, wrote_none, wrote_as, wrote_length}
use Rattle.book.specs.Book.{Book}
use Rattle.solver_expr.specs.SolverExpr.{SExpr, SExprs, S, PP, []ˢ, ◌∷ˢ◌, SExprPrintConfig, extra_indent, indent_step, name_to_string, to_string, list_to_string, args_to_string}
use Rattle.solver_expr.specs.Values.{text_of, row_of, meaning, FineName, FineRow, Fine}
use Rattle.solver_expr.specs.declared.SName.{SName}
use Rattle.solver_expr.specs.declared.SRow.{SRow}
use Rattle.solver_expr.specs.declared.SExpr as code
use Rattle.solver_expr.specs.declared.SExpr.TheVariants as value
use Rattle.sexpr_rows.specs.Rows.{dropˢ, ReadyRow, AtName, AtRow, AtLast, AtEnd, Turned}
use Rattle.sexpr_rows.specs.declared.Turn.{Turn}
use Rattle.sexpr_rows.specs.declared.Turn.TheVariants as turn
use Rattle.printer.specs.Printing.{Shows, WroteIn, layout_behind, Behind, lead, parts_from, open_part, name_part, row_text, expr_text, ReadyExpr}
use Rattle.sexpr_names.specs.Names.{ReadyName}

-- How large a row is: what falls as it is printed.

unfoldable mutual
  pub weight : SExpr → ℕ
  weight (S name) = 0
  weight (PP s) = suc (weights s)

  pub weights : SExprs → ℕ
  weights []ˢ = 0
  weights (e ∷ˢ s) = suc (weight e + weights s)

lighter : (s rest : SExprs) (e : SExpr) → s ≡ e ∷ˢ rest → (weight e < weights s) × (weights rest < weights s)
unfolding weights
lighter s rest e h = rw h (omega arith, omega arith)

-- The text of a row.

-- one part, and the others
one_part : (i : ℕ) (s rest : SExprs) (e : SExpr) (c : SExprPrintConfig) → s ≡ e ∷ˢ rest
    → parts_from i s c ≡ lead i c ++ to_string e c ++ parts_from (i + 1) rest (layout_behind i c)
unfolding parts_from lead layout_behind args_to_string
one_part zero s rest e c h = rw h
one_part (suc i) s rest e c h = rw (h, add-one)

no_part : (i : ℕ) (s : SExprs) (c : SExprPrintConfig) → s ≡ []ˢ → parts_from i s c ≡ []
unfolding parts_from args_to_string
no_part zero s c h = rw h
no_part (suc i) s c h = rw h

-- a row opens, and goes on with its parts
opened : (s : SExprs) (c : SExprPrintConfig) → to_string (PP s) c ≡ ascii "(" ++ (parts_from 0 s c ++ ascii ")")
unfolding to_string list_to_string parts_from
opened []ˢ c = refl
opened (e ∷ˢ s) c = refl

-- as many parentheses as are open
abbrev closing : ℕ → Text
closing n = replicate n 0x29

-- o1 has the text up to place i of the row p; what is left of it is the rest of p, and the parentheses
pub record Progress (b : Book) (tag : ℕ) (newlines : Bool) (row : SRow) (c : SExprPrintConfig) (o o1 : List ℕ) (p : SRow) (i at pending n : ℕ) : Type 0 where
  pub layout : SExprPrintConfig
  pub opens : ℕ
  pub done : Text
  pub shows : Shows newlines at layout
  pub counted : pending ≡ min opens MOST
  pub wrote : Wrote done o o1 n
  pub rest : done ++ (parts_from i (dropˢ i (row_of b tag p)) layout ++ closing opens) ≡ row_text b tag row c

-- what holds at the head of the loop
pub record Standing (b : Book) (tag : ℕ) (newlines : Bool) (indent : ℕ) (row : SRow) (o o1 : List ℕ) (p : SRow) (i at pending n : ℕ) (t : Turn) : Type 0 where
  pub ready : ReadyRow b p
  pub turned : Turned b p i t
  pub progress : (c : SExprPrintConfig) → Shows newlines indent c → Progress b tag newlines row c o o1 p i at pending n
  pub light : weights (dropˢ i (row_of b tag p)) ≤ weights (row_of b tag row)
  pub same : length o1 ≡ length o

module _ {b : Book} {p : SRow} {i : ℕ} {t : Turn} where
  pub at_name : {m : SName} → t ≡ turn.Name m → Turned b p i t → AtName b p i m
  unfolding Turned
  at_name e h = subst (Turned b p i) e h

  pub at_row : {q : SRow} → t ≡ turn.Row q → Turned b p i t → AtRow b p i q
  unfolding Turned
  at_row e h = subst (Turned b p i) e h

  pub at_last : {q : SRow} → t ≡ turn.Last q → Turned b p i t → AtLast b p i q
  unfolding Turned
  at_last e h = subst (Turned b p i) e h

  pub at-end : t ≡ turn.End → Turned b p i t → AtEnd b p i
  unfolding Turned
  at-end e h = subst (Turned b p i) e h

-- before the first turn
pub start : {b : Book} {newlines : Bool} {indent : ℕ} {row : SRow} {o : List ℕ} {t : Turn} (tag : ℕ) → ReadyRow b row → Turned b row 0 t → Standing b tag newlines indent row o o row 0 indent 1 0 t
unfolding dropˢ row_text
start {b} {newlines} {indent} {row} {o} tag r h =
    record {
      ready = r;
      turned = h;
      progress = λ c s. record { layout = c; opens = 1; done = []; shows = s; counted = refl; wrote = wrote_none o; rest = refl };
      light = omega arith;
      same = refl;
    }

-- texts joined otherwise
module _ (d l u w : Text) {whole : Text} where
  past_one : d ++ ((l ++ u) ++ w) ≡ whole → (d ++ l) ++ (u ++ w) ≡ whole
  past_one h = simp append_assoc (simp append_assoc at h)

  past_two : (p r : Text) → d ++ ((l ++ (p ++ r) ++ u) ++ w) ≡ whole → ((d ++ (l ++ p)) ++ r) ++ (u ++ w) ≡ whole
  past_two p r h = simp append_assoc (simp append_assoc at h)

  past_open : (p q : Text) → d ++ ((l ++ (p ++ (u ++ q)) ++ []) ++ w) ≡ whole → (d ++ (l ++ p)) ++ (u ++ (q ++ w)) ≡ whole
  past_open p q h = simp append_assoc (simp (append_assoc, append-nil) at h)

joined_length : (k : ℕ) (o x : List ℕ) → k ≤ length o → length x ≡ length (take (length o - k) (drop k o)) → length (joined k o x) ≡ length o
joined_length k o x h e = simp (length-append, length-take, length-drop) (omega (arith, simp (length-take, length-drop) at e))

module _ {b : Book} {tag : ℕ} {newlines : Bool} {indent : ℕ} {row : SRow} {o o1 : List ℕ} {p : SRow} {i at pending n : ℕ} {t : Turn}
    (short : length o < MOST + 1) (h : Standing b tag newlines indent row o o1 p i at pending n t) {k : ℕ} (ek : k ≡ min n (length o1)) where
  -- what is free of the buffer
  abbrev free : List ℕ
  free = take (length o1 - k) (drop k o1)

  still : (x : List ℕ) → length x ≡ length free → length (joined k o1 x) ≡ length o
  still x e = joined_length k o1 x (omega arith) e ∙ h.same

  -- a name
  module _ {m : SName} (e : t ≡ turn.Name m) where
    pub name_falls : weights (dropˢ (i + 1) (row_of b tag p)) < weights (dropˢ i (row_of b tag p))
    name_falls = (lighter (dropˢ i (row_of b tag p)) _ _ ((at_name e h.turned).is tag)).1

    pub name_ready : ReadyName b m
    name_ready = record { promise = h.ready.promise; fine = (at_name e h.turned).fine }

    pub name_more : {x : List ℕ} {r n' at' : ℕ} {t' : Turn} → WroteIn newlines at (name_part b tag m i) free x r → length x ≡ length free → n' ≡ min (n + r) MOST
        → Behind i newlines at at' → Turned b p (i + 1) t' → Standing b tag newlines indent row o (joined k o1 x) p (i + 1) at' pending n' t'
    unfolding name_part to_string
    name_more {x} {r} {n'} {at'} w same en d h' = record { ready = h.ready; turned = h'; progress = go; light = omega (arith, name_falls, h.light); same = still x same }
      where
        go : (c : SExprPrintConfig) → Shows newlines indent c → Progress b tag newlines row c o (joined k o1 x) p (i + 1) at' pending n'
        go c s =
            let g = h.progress c s in
            let one = one_part i (dropˢ i (row_of b tag p)) _ _ g.layout ((at_name e h.turned).is tag) in
            record {
              layout = layout_behind i g.layout;
              opens = g.opens;
              done = g.done ++ (lead i g.layout ++ name_to_string (text_of b tag m));
              shows = d.shows g.layout g.shows;
              counted = g.counted;
              wrote = wrote_then short g.wrote ek (w.wrote g.layout g.shows) en;
              rest = past_one g.done (lead i g.layout ++ name_to_string (text_of b tag m)) (parts_from (i + 1) (dropˢ (i + 1) (row_of b tag p)) (layout_behind i g.layout)) (closing g.opens) (ap (λ (z : Text). g.done ++ (z ++ closing g.opens)) (sym one) ∙ g.rest);
            }

  -- a row before other parts
  module _ {q : SRow} (e : t ≡ turn.Row q) where
    pub row_falls : weights (dropˢ (i + 1) (row_of b tag p)) < weights (dropˢ i (row_of b tag p))
    row_falls = (lighter (dropˢ i (row_of b tag p)) _ _ ((at_row e h.turned).is tag)).1

    pub row_ready : ReadyRow b q
    row_ready = record { promise = h.ready.promise; fine = (at_row e h.turned).fine }

    pub row_lighter : weights (row_of b tag q) < weights (row_of b tag row)
    unfolding weight
    row_lighter = omega (arith, (lighter (dropˢ i (row_of b tag p)) _ _ ((at_row e h.turned).is tag)).0, h.light)

    pub row_more : {x y : List ℕ} {r n1 k1 r1 n' at' : ℕ} {t' : Turn} → WroteIn newlines at (open_part i) free x r → length x ≡ length free → n1 ≡ min (n + r) MOST
        → k1 ≡ min n1 (length (joined k o1 x)) → WroteIn newlines at (row_text b tag q) (take (length (joined k o1 x) - k1) (drop k1 (joined k o1 x))) y r1
        → length y ≡ length (take (length (joined k o1 x) - k1) (drop k1 (joined k o1 x))) → n' ≡ min (n1 + r1) MOST
        → Behind i newlines at at' → Turned b p (i + 1) t' → Standing b tag newlines indent row o (joined k1 (joined k o1 x) y) p (i + 1) at' pending n' t'
    unfolding open_part row_text
    row_more {x} {y} {r} {n1} {k1} {r1} {n'} {at'} w same en ek1 w1 same1 en1 d h' =
        record {
          ready = h.ready;
          turned = h';
          progress = go;
          light = omega (arith, row_falls, h.light);
          same = joined_length k1 (joined k o1 x) y (omega arith) same1 ∙ still x same;
        }
      where
        go : (c : SExprPrintConfig) → Shows newlines indent c → Progress b tag newlines row c o (joined k1 (joined k o1 x) y) p (i + 1) at' pending n'
        go c s =
            let g = h.progress c s in
            let one = one_part i (dropˢ i (row_of b tag p)) _ _ g.layout ((at_row e h.turned).is tag) ∙ ap (λ (z : Text). lead i g.layout ++ z ++ parts_from (i + 1) (dropˢ (i + 1) (row_of b tag p)) (layout_behind i g.layout)) (opened (row_of b tag q) g.layout) in
            record {
              layout = layout_behind i g.layout;
              opens = g.opens;
              done = (g.done ++ (lead i g.layout ++ ascii "(")) ++ (parts_from 0 (row_of b tag q) g.layout ++ ascii ")");
              shows = d.shows g.layout g.shows;
              counted = g.counted;
              wrote = wrote_then short (wrote_then short g.wrote ek (w.wrote g.layout g.shows) en) ek1 (w1.wrote g.layout g.shows) en1;
              rest = past_two g.done (lead i g.layout) (parts_from (i + 1) (dropˢ (i + 1) (row_of b tag p)) (layout_behind i g.layout)) (closing g.opens) (ascii "(") (parts_from 0 (row_of b tag q) g.layout ++ ascii ")") (ap (λ (z : Text). g.done ++ (z ++ closing g.opens)) (sym one) ∙ g.rest);
            }

  -- a row that is the last part
  module _ {q : SRow} (e : t ≡ turn.Last q) where
    pub last_falls : weights (dropˢ 0 (row_of b tag q)) < weights (dropˢ i (row_of b tag p))
    unfolding weight dropˢ
    last_falls = omega (arith, (lighter (dropˢ i (row_of b tag p)) _ _ ((at_last e h.turned).is tag)).0)

    pub last_ready : ReadyRow b q
    last_ready = record { promise = h.ready.promise; fine = (at_last e h.turned).fine }

    pub last_more : {x : List ℕ} {r n' pending' : ℕ} {t' : Turn} → WroteIn newlines at (open_part i) free x r → length x ≡ length free → n' ≡ min (n + r) MOST
        → pending' ≡ min (pending + 1) MOST → Turned b q 0 t' → Standing b tag newlines indent row o (joined k o1 x) q 0 at pending' n' t'
    unfolding open_part dropˢ
    last_more {x} {r} {n'} {pending'} w same en ep h' =
        record { ready = last_ready; turned = h'; progress = go; light = omega (arith, last_falls, h.light); same = still x same }
      where
        go : (c : SExprPrintConfig) → Shows newlines indent c → Progress b tag newlines row c o (joined k o1 x) q 0 at pending' n'
        go c s =
            let g = h.progress c s in
            let one = one_part i (dropˢ i (row_of b tag p)) _ _ g.layout ((at_last e h.turned).is tag)
            ∙ ap (λ (z : Text). lead i g.layout ++ z ++ parts_from (i + 1) []ˢ (layout_behind i g.layout)) (opened (row_of b tag q) g.layout)
            ∙ ap (λ (z : Text). lead i g.layout ++ (ascii "(" ++ (parts_from 0 (row_of b tag q) g.layout ++ ascii ")")) ++ z) (no_part (i + 1) []ˢ (layout_behind i g.layout) refl) in
            record {
              layout = g.layout;
              opens = suc g.opens;
              done = g.done ++ (lead i g.layout ++ ascii "(");
              shows = g.shows;
              counted = omega (arith, g.counted, ep);
              wrote = wrote_then short g.wrote ek (w.wrote g.layout g.shows) en;
              rest = past_open g.done (lead i g.layout) (parts_from 0 (row_of b tag q) g.layout) (closing g.opens) (ascii "(") (ascii ")") (ap (λ (z : Text). g.done ++ (z ++ closing g.opens)) (sym one) ∙ g.rest);
            }

  -- past the last part
  pub finish : {x : List ℕ} {r n' : ℕ} → t ≡ turn.End → WroteRepeat 0x29 pending free x r → n' ≡ min (n + r) MOST → WroteIn newlines indent (row_text b tag row) o (joined k o1 x) n'
  finish {x} {r} {n'} e w en = record { wrote = go }
    where
      go : (c : SExprPrintConfig) → Shows newlines indent c → Wrote (row_text b tag row c) o (joined k o1 x) n'
      go c s =
          let g = h.progress c s in
          let none = no_part i (dropˢ i (row_of b tag p)) g.layout ((at-end e h.turned).is tag) in
          wrote_as (ap (λ (z : Text). g.done ++ (z ++ closing g.opens)) (sym none) ∙ g.rest)
          (wrote_then short g.wrote ek (w.text g.opens g.counted) en)

-- ToString.

module _ (b : Book) {e : code.SExpr} where
  pub ready_name : {n : SName} → e ≡ value.S n → ReadyExpr b e → ReadyName b n
  unfolding Fine
  ready_name h r = record { promise = r.promise; fine = subst (Fine b) h r.fine }

  pub ready_row : {p : SRow} → e ≡ value.PP p → ReadyExpr b e → ReadyRow b p
  unfolding Fine
  ready_row h r = record { promise = r.promise; fine = subst (Fine b) h r.fine }

  module _ (tag : ℕ) {indent : ℕ} {newlines : Bool} {o o1 : List ℕ} where
    pub expr_name : {n : SName} {r : ℕ} → e ≡ value.S n → Wrote (name_to_string (text_of b tag n)) o o1 r → WroteIn newlines indent (expr_text b tag e) o o1 r
    unfolding expr_text meaning to_string
    expr_name h w = rw h (record { wrote = λ c s. w })

    pub expr_row : {p : SRow} {x : List ℕ} {r1 k r2 r : ℕ} → length o < MOST + 1 → e ≡ value.PP p → Wrote (ascii "(") o o1 r1 → k ≡ min r1 (length o1)
        → WroteIn newlines indent (row_text b tag p) (take (length o1 - k) (drop k o1)) x r2 → r ≡ min (r1 + r2) MOST → WroteIn newlines indent (expr_text b tag e) o (joined k o1 x) r
    unfolding expr_text meaning row_text
    expr_row {p} short h w1 ek w2 er = rw h (record { wrote = λ c s. wrote_as (sym (opened (row_of b tag p) c)) (wrote_then short w1 ek (w2.wrote c s) er) })
