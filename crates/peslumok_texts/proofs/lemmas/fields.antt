pub mod ShownTexts
pub mod WholeTexts
