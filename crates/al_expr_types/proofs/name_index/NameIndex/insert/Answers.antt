use Rattle.std.proofs.Common.{◌≡◌, ◌∙◌, true, false, rules, sym}
use Rattle.std.specs.BTreeMap.Entry.{map_with_value}
use Rattle.std.specs.Prelude.{is_none}
use Rattle.al_expr_types.proofs.NameIndexes.{added, entry_at, key_in, kept, none_there, same_places}
use Rattle.al_expr_types.proofs.name_index.NameIndex.insert.Goals as goal

pub returns-in-Occupied : goal.returns-in-Occupied
returns-in-Occupied c =
    let key = key_in c.in_ok-key_of.field-0 in
    let there : false ≡ is_none (entry_at c.args.self.now key) = search rules in
    same_places c.args.self.now (record { alloc = c.args.self.now.alloc; positions = _ }) (search rules)
    ∙ sym (kept c.args.self.now key c.args.name.now c.args.position c.in_ok-key_of.ensures (sym there))

pub returns-in-Vacant : goal.returns-in-Vacant
returns-in-Vacant c =
    let key = c.in_ok-key_of.field-0 in
    let entry = c.in_ok-self.field-0 in
    let i = c.args.position in
    let none : true ≡ is_none (entry_at c.args.self.now (key_in key)) = search rules in
    same_places (record { alloc = c.args.self.now.alloc; positions = map_with_value entry i }) (record { alloc = c.args.self.now.alloc; positions = _ }) (search rules)
    ∙ added c.args.self.now (record { alloc = c.args.self.now.alloc; positions = map_with_value entry i }) key c.args.name.now i c.in_ok-key_of.ensures (none_there _ none)
    (c.in_ok-self.ensures.update.0 i)
