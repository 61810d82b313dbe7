pub mod OneText
pub mod TextsOfValues
