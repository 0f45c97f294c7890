pub mod ItemForms
