-- The text of an order's body, and what it says.
use Rattle.desk_client.proofs.Common.{Data, Err, IfOk, IsOrder, IsOrderText, IsTextOf, List, Ok, Order, Result, Some, Stock, agents_object, ap, depth, drop, false, max_depth, number_text, order_data, order_verb, padded, prefix_of, read, refl, run_object, serial_of, subst, sym, take, ℕ, ◌∙◌, ◌≡◌, ◌≤◌}
use Rattle.serde_json.specs.Written.{compact_text, has_float}
use Rattle.serde_json.proofs.OnLiterals.{serde_json_on_literals}
use Rattle.agent_stock.specs.declared.stock.Order.TheVariants.{TakeIn, Issue, GiveBack, Void}
use Rattle.desk_commands.specs.Body.{IsBodyOf}

-- a text that the writer made
pub written : {X T : Type 0} (r : Result T X) (f : T → List ℕ) (v d : Data) → v ≡ d → has_float d ≡ false → depth d ≤ max_depth
    → IfOk r (λ t. has_float v ≡ false → f t ≡ compact_text v) → IfOk r (λ t. depth v ≤ max_depth → read (f t) ≡ Some v) → IfOk r (λ t. IsTextOf d (f t))
written (Ok t) f v d same plain shallow text reads =
    subst (λ (x : Data). IsTextOf x (f t)) same
    (text (subst (λ (x : Data). has_float x ≡ false) (sym same) plain), reads (subst (λ (x : Data). depth x ≤ max_depth) (sym same) shallow))
written (Err e) f v d same plain shallow text reads = tt

-- a text of a value that is the same
pub same_text : {T X : Type 0} (r : Result T X) (f : T → List ℕ) (a b : Data) → a ≡ b → IfOk r (λ t. IsTextOf a (f t)) → IfOk r (λ t. IsTextOf b (f t))
same_text r f a b same is = subst (λ (d : Data). IfOk r (λ t. IsTextOf d (f t))) same is

-- the digits of a number's text
pub prefix_digits : (number text : List ℕ) (k : ℕ) → number ≡ number_text k → text ≡ take 3 number → text ≡ padded 3 (prefix_of k)
prefix_digits number text k is cut = cut ∙ ap (λ (l : List ℕ). take 3 l) is

pub serial_digits : (number text : List ℕ) (k : ℕ) → number ≡ number_text k → text ≡ take 7 (drop 4 number) → text ≡ padded 7 (serial_of k)
serial_digits number text k is cut = cut ∙ ap (λ (l : List ℕ). take 7 (drop 4 l)) is

pub run_same : (n m : ℕ) (p q s t : List ℕ) → n ≡ m → p ≡ q → s ≡ t → run_object n p s ≡ run_object m q t
run_same n m p q s t count prefix serial = λ i. run_object (count i) (prefix i) (serial i)

pub agents_same : (a b : List ℕ) (n m : ℕ) (p q s t : List ℕ) → a ≡ b → n ≡ m → p ≡ q → s ≡ t → agents_object a n p s ≡ agents_object b m q t
agents_same a b n m p q s t agent count prefix serial = λ i. agents_object (agent i) (count i) (prefix i) (serial i)

-- the body says the order
pub says : (order : Order) → IsOrder order → IsBodyOf (order_verb order) (order_data order) (Stock order)
unfolding serde_json_on_literals
says (TakeIn run) range = record { in_range = range; verb_is = refl; members = (refl, (refl, (refl, tt))); no_other = refl }
says (Issue run agent) range = record { in_range = range; verb_is = refl; members = (refl, (refl, (refl, (refl, tt)))); no_other = refl }
says (GiveBack run agent) range = record { in_range = range; verb_is = refl; members = (refl, (refl, (refl, (refl, tt)))); no_other = refl }
says (Void run) range = record { in_range = range; verb_is = refl; members = (refl, (refl, (refl, tt))); no_other = refl }

pub of_order : {T X : Type 0} (r : Result T X) (f : T → List ℕ) (order o : Order) → order ≡ o → IsOrder o → IfOk r (λ t. IsTextOf (order_data o) (f t))
    → IfOk r (λ t. IsOrderText order (f t))
of_order (Ok t) f order o is range text =
    subst (λ (x : Order). IsOrderText x (f t)) (sym is) (record { text_is = text; body = says o range })
of_order (Err e) f order o is range text = tt
