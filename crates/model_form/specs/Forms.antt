-- The form of document 02 that the code's names.
use Rattle.theory.specs.Form.{Form, old_form, new_form}
use Rattle.model_form.specs.declared.Form.{Form as CodeForm}
use Rattle.model_form.specs.declared.Form.TheVariants.{Old, New}

unfoldable pub form_of : CodeForm → Form
form_of Old = old_form
form_of New = new_form
