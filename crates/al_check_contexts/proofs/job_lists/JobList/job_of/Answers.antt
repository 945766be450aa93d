use Rattle.std.proofs.Common.{◌≡◌, ap, sym, ◌∙◌, map, Some, None, arith}
use Rattle.std.specs.Str.{bytes_eq}
use Rattle.al_base.proofs.NamePlaces.{found_nowhere, found_there, found_within}
use Rattle.al_check_places.specs.Positions.{section_view}
use Rattle.al_tree.specs.Keys.{key_of}
use Rattle.al_tree.specs.Values.{member_of}
use Rattle.al_check_contexts.specs.Contexts.{job_in}
use Rattle.al_base.specs.NamePlaces.{first_at}
use Rattle.al_check_contexts.proofs.JobLemmas.{first_mapped}
use Rattle.al_check_contexts.proofs.job_lists.JobList.job_of.Goals as goal

pub index-requires : goal.index-requires
index-requires c =
    let items = c.args.self.now.members.items in
    let key = c.in-Job.key.now in
    let at : first_at (λ j. bytes_eq (key_of j) key) (map member_of items) ≡ Some c.in-Some.i =
    sym (first_mapped key_of (λ k. bytes_eq k key) (map member_of items)) ∙ ap (λ f. f key) (sym c.args.self.now.by_key) ∙ sym c.get.ensures ∙ c.in-Some.is in
    let few = found_within member_of (λ j. bytes_eq (key_of j) key) items c.in-Some.i at in
    omega (arith, few, c.args.self.now.members.ok.0)

pub returns-in-Some : goal.returns-in-Some
returns-in-Some c =
    let items = c.args.self.now.members.items in
    let key = c.in-Job.key.now in
    let at : first_at (λ j. bytes_eq (key_of j) key) (map member_of items) ≡ Some c.in-Some.i =
    sym (first_mapped key_of (λ k. bytes_eq k key) (map member_of items)) ∙ ap (λ f. f key) (sym c.args.self.now.by_key) ∙ sym c.get.ensures ∙ c.in-Some.is in
    found_there member_of (λ j. bytes_eq (key_of j) key) items c.in-Some.i c.index.result.now at c.index.ensures
    ∙ sym (ap (λ s. job_in (map member_of items) (section_view s)) c.in-Job.is)

pub returns-in-None : goal.returns-in-None
returns-in-None c =
    let js = map member_of c.args.self.now.members.items in
    let key = c.in-Job.key.now in
    let at : first_at (λ j. bytes_eq (key_of j) key) js ≡ None =
    sym (first_mapped key_of (λ k. bytes_eq k key) js) ∙ ap (λ f. f key) (sym c.args.self.now.by_key) ∙ sym c.get.ensures ∙ c.in-None.is in
    found_nowhere (λ j. bytes_eq (key_of j) key) js at ∙ sym (ap (λ s. job_in js (section_view s)) c.in-Job.is)
