mod NameText
